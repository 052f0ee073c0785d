-- The frames of a sound (A/52 5.3): the shape and the coefficients of each, a lawful plan of it, and the frame by that plan.
-- The sound of a frame is the 256 places before it, and its own 1,536 (A/52 8.2.3), of each channel in coding order, LFE last.
use Rattle.std.specs.Prelude.{◌≡◌, ◌⊎◌, ℕ, zero, suc, nat_eq, true, if◌then◌else◌, ◌+◌, ◌*◌, ◌<◌, List, [], ◌++◌, slice_index_or, ℤ, pos, Some, None}
use Rattle.ac_base.specs.declared.shapes.Shape.{Shape}
use Rattle.ac_base.specs.Sizes.{frame_words_of, table_words}
use Rattle.ac_base.specs.Window.{window_of}
use Rattle.ac_energy.specs.Coefficients.{Coefficients}
use Rattle.ac_mdct.specs.Forward.{rounded, forward_sum, coefficient}
use Rattle.ac_coordinates.specs.declared.Coordinates.{Coordinates}
use Rattle.ac_coupling.specs.Coupling.{AreCoordinates, is_worth}
use Rattle.ac_joint.specs.Joint.{joint_flags, joint_of}
use Rattle.ac_plan.specs.declared.answer.Plan.{Plan}
use Rattle.ac_plan.specs.Plans.{IsLawful}
use Rattle.ac_record.specs.Frames.{FrameCodes}
use Rattle.ac_record.specs.Readings.{IsReading}
use Rattle.ac_sent.specs.Laws.{IsBack}
use Rattle.ac_coding.specs.Asked.{AreRawOf}
use Rattle.ac_coding.specs.Values.{values_of, IsCoded}
use Rattle.ac_words.specs.declared.meaning.Options.{Options}
use Rattle.ac_enc.specs.Layout.{Layout, range_of, IsShapeWith, CheapestFits}

-- ---- sizes

-- frmsizecod of frame i, by the code of its rate: an odd one says one word more than the table's (A/52 5.4.1.4, Table 5.18)
abbrev pub size_code : ℕ → ℕ → ℕ → ℕ → ℕ
size_code rate fscod i code = if nat_eq (frame_words_of rate fscod i) (table_words rate fscod) then 2 * code else 2 * code + 1

-- the words of the first n frames; that sizes alternate so at 44.1 kHz is this project's own
unfoldable pub words_so_far : ℕ → ℕ → ℕ → ℕ
words_so_far rate fscod zero = 0
words_so_far rate fscod (suc n) = words_so_far rate fscod n + frame_words_of rate fscod n

-- ---- coefficients

-- coefficient k of block b: the transform of the places 256 b to 256 b + 511 (A/52 8.2.3)
abbrev pub coefficient_at : (ℕ → ℤ) → ℕ → ℕ → ℤ
coefficient_at x b k = coefficient (forward_sum (λ n. rounded (x (256 * b + n)) (window_of n)) k)

-- these rows are those of six blocks
abbrev pub AreTransformed : (ℕ → ℤ) → List (List ℤ) → Type 0
AreTransformed x rows =
    (b k : ℕ) → b < 6 → k < 256 → slice_index_or (slice_index_or rows b []) k (pos 0) ≡ coefficient_at x b k

-- the places of a frame, by channel and place
abbrev pub Places : Type 0
Places = ℕ → ℕ → ℤ

-- the coefficients of all channels
abbrev pub coefficients : Places → Coefficients
coefficients x c b k = coefficient_at (x c) b k

-- the places of a frame, behind the last 256 of the frame before (A/52 8.2.3)
abbrev pub joined : List ℤ → List ℤ → ℕ → ℤ
joined last pcm p = slice_index_or (last ++ pcm) p (pos 0)

-- those of all channels
abbrev pub joined_by : List (List ℤ) → List (List ℤ) → Places
joined_by last pcm c = joined (slice_index_or last c []) (slice_index_or pcm c [])

-- ---- the shape

-- a frame of so many words couples with this range: it is usable, the cheapest assignment fits with it, and coupling is worth it, or
-- the cheapest doesn't fit without it
pub record Couples (o : Options) (l : Layout) (words : ℕ) (x : Coefficients) (range : ℕ × ℕ) : Type 0 where
  pub usable : range_of o l ≡ Some range
  pub fits : CheapestFits o l words (Some range)
  pub why : ((coupled : Shape) × IsShapeWith o l words (Some range) coupled × (is_worth coupled x ≡ true))
      ⊎ (CheapestFits o l words None → ⊥)

-- the shape of a frame of so many words with these coefficients
abbrev pub IsShapeFor : Options → Layout → ℕ → Coefficients → Shape → Type 0
IsShapeFor o l words x shape =
    ((range : ℕ × ℕ) × Couples o l words x range × IsShapeWith o l words (Some range) shape)
    ⊎ (((range : ℕ × ℕ) → Couples o l words x range → ⊥) × IsShapeWith o l words None shape)

-- that of frame i
abbrev pub IsShapeOf : Options → Layout → ℕ → Coefficients → Shape → Type 0
IsShapeOf o l i x shape = IsShapeFor o l (frame_words_of o.rate l.fscod i) x shape

-- ---- frames

-- these bytes are frame i of a stream: that of the sound x by this plan
pub record IsFrame (o : Options) (l : Layout) (i : ℕ) (x : Places) (plan : Plan) (frame : List ℕ) : Type 0 where
  pub shape : Shape
  pub shape_is : IsShapeOf o l i (coefficients x) shape
  -- the coupling's coordinates (A/52 7.4.3)
  pub coords : Coordinates
  pub coords_are : AreCoordinates shape (coefficients x) coords
  pub raw : List (List (List ℕ))
  pub raw_is : AreRawOf shape (joint_of shape (coefficients x)) raw
  -- the plan fits at its offset, and its mark is true of it (this project's own)
  pub lawful : IsLawful shape raw o.nodes plan
  pub coded : IsCoded shape (joint_of shape (coefficients x)) plan.offset plan.assign (joint_flags shape (coefficients x)) coords frame
  -- what is read of the frame is what was coded
  pub back : (f : FrameCodes) → IsReading frame f
      → IsBack (values_of shape (joint_of shape (coefficients x)) plan.offset plan.assign (joint_flags shape (coefficients x)) coords) f
