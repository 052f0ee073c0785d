-- What was made of the coefficients of a frame is the frame.
use Rattle.std.proofs.Common.{◌≡◌, ◌⊎◌, ℕ, ◌+◌, ◌-◌, ◌<◌, ◌^◌, Bool, List, [], ℤ, slice_index_or, inl, inr, ap, sym, subst, ◌∙◌, arith}
use Rattle.ac_base.specs.declared.shapes.Shape.{Shape}
use Rattle.ac_base.specs.Rates.{IsRate}
use Rattle.ac_base.specs.Shape.{full_of, count_of}
use Rattle.ac_base.specs.Sigma.{Within}
use Rattle.ac_base.specs.Sizes.{frame_words_of}
use Rattle.ac_base.proofs.SpanBounds.{span_end}
use Rattle.ac_coding.specs.Asked.{AreRawOf}
use Rattle.ac_coding.specs.Laws.{Agree}
use Rattle.ac_coding.specs.Values.{values_of, IsCoded}
use Rattle.ac_coding.proofs.Agreeing.{values_same}
use Rattle.ac_coordinates.specs.declared.Coordinates.{Coordinates}
use Rattle.ac_cost.proofs.Exponents.{span_of_shape}
use Rattle.ac_coupling.specs.Coupling.{AreCoordinates}
use Rattle.ac_energy.specs.Coefficients.{Coefficients, entry}
use Rattle.ac_expo.specs.declared.word.Assign.{Assign}
use Rattle.ac_expo.specs.Raw.{AreRaw, channel_span, raw_of}
use Rattle.ac_joint.specs.Joint.{joint_flags, joint_of}
use Rattle.ac_plan.specs.declared.answer.Plan.{Plan}
use Rattle.ac_plan.specs.Plans.{IsLawful}
use Rattle.ac_record.specs.Frames.{FrameCodes}
use Rattle.ac_record.specs.Readings.{IsReading}
use Rattle.ac_sent.specs.Asked.{IsSizeCode}
use Rattle.ac_sent.specs.Laws.{IsBack}
use Rattle.ac_sent.specs.Packed.{IsPacked}
use Rattle.ac_sent.specs.Values.{Quantised}
use Rattle.ac_words.specs.declared.meaning.Options.{Options}
use Rattle.ac_enc.specs.Frame.{Places, IsShapeFor, IsShapeOf, IsFrame, AreTransformed, coefficients}
use Rattle.ac_enc.specs.Layout.{Layout, channels_in}
use Rattle.ac_enc.specs.Sounds.{AreSmallOf}
use Rattle.ac_enc.proofs.Alike.{Alike, joint_same}
use Rattle.ac_enc.proofs.OneShape.{of_for}
use Rattle.ac_enc.proofs.Sizes.{sized}

-- the array of a transform has the coefficients
pub transformed : (l : Layout) (n : ℕ) (x : Places) (coefs : List (List (List ℤ))) → n ≡ channels_in l → ((c : ℕ) → c < n → AreTransformed (x c) (slice_index_or coefs c [])) → Alike (channels_in l) (entry coefs) (coefficients x)
transformed l n x coefs e are c b k below block bin = are c (omega (arith, e, below)) b k block bin

-- and they are small
pub small_of : (l : Layout) (n : ℕ) (coefs : List (List (List ℤ))) → n ≡ channels_in l → ((c b : ℕ) → c < n → b < 6 → Within (2 ^ 24 - 1) 256 (slice_index_or (slice_index_or coefs c []) b [])) → AreSmallOf l (entry coefs)
small_of l n coefs e are c b k below block bin = let most = are c b (omega (arith, e, below)) block k bin in omega (arith, most)

-- in a coded channel, a bin of the span is one of the 256
pub bin_of : (shape : Shape) (c k : ℕ) → k < (channel_span shape c).end → k < 256
bin_of shape c k below = let end = span_end (channel_span shape c) (span_of_shape shape c) in omega (arith, below, end)

pub joint_agrees : (shape : Shape) (x y : Coefficients) → Alike (full_of shape.acmod + count_of shape.lfe) x y → Agree shape (joint_of shape x) (joint_of shape y)
joint_agrees shape x y same c b k below block inside = joint_same shape x y same c b k below block (bin_of shape c k inside.1)

-- the raw exponents
pub raw_agrees : (shape : Shape) (x : Coefficients) (coefs : List (List (List ℤ))) (raw : List (List (List ℕ))) → Agree shape (entry coefs) x → AreRaw shape coefs raw → AreRawOf shape x raw
raw_agrees shape x coefs raw agree are c b k below block inside = are c below b block k inside ∙ ap raw_of (agree c b k below block inside)

-- the shape of a frame of so many words is that of the frame
pub shape_at : (o : Options) (l : Layout) (i : ℕ) (x : Coefficients) (words : ℕ) (shape : Shape) → words ≡ frame_words_of o.rate l.fscod i → IsShapeFor o l words x shape → IsShapeOf o l i x shape
shape_at o l i x words shape e is = subst (λ (w : ℕ). IsShapeFor o l w x shape) e is

-- the size of the shape has a code
pub shape_sized : (o : Options) (l : Layout) (i : ℕ) (x : Coefficients) (shape : Shape) → IsRate o.rate → IsShapeOf o l i x shape → (code : ℕ) × IsSizeCode shape.fscod shape.words code
shape_sized o l i x shape rate is =
    let at = sized o.rate l.fscod i rate in
    let of = of_for o l (frame_words_of o.rate l.fscod i) x shape is in
    (at.0, subst (λ (w : ℕ). IsSizeCode shape.fscod w at.0) (sym of.size) (subst (λ (s : ℕ). IsSizeCode s (frame_words_of o.rate l.fscod i) at.0) (sym of.sampling_rate) at.1))

-- a frame's size is the table's or one word more
pub listed_size : (words table : ℕ) (P : Type 0) → (words ≡ table) ⊎ (P × (words ≡ table + 1)) → (words ≡ table) ⊎ (words ≡ table + 1)
listed_size words table P (inl e) = inl e
listed_size words table P (inr e) = inr e.1

-- the values of a frame are told by what agrees with its coefficients
pub values_are : (shape : Shape) (z x : Coefficients) (t : ℕ) (assign : Assign) (remat flags : List Bool) (coords : Coordinates) → Agree shape z x → remat ≡ flags → values_of shape z t assign remat coords ≡ values_of shape x t assign flags coords
values_are shape z x t assign remat flags coords agree e =
    values_same shape z x t assign remat coords agree ∙ ap (λ (r : List Bool). values_of shape x t assign r coords) e

pub frame_made : (o : Options) (l : Layout) (i : ℕ) (x : Places) (plan : Plan) (frame : List ℕ) (shape : Shape) (z : Coefficients) (raw : List (List (List ℕ))) (remat : List Bool) (coords : Coordinates)
    → IsShapeOf o l i (coefficients x) shape → remat ≡ joint_flags shape (coefficients x) → AreCoordinates shape (coefficients x) coords → Agree shape z (joint_of shape (coefficients x))
    → AreRawOf shape (joint_of shape (coefficients x)) raw → IsLawful shape raw o.nodes plan → IsCoded shape z plan.offset plan.assign remat coords frame
    → ((f : FrameCodes) → IsReading frame f → IsBack (values_of shape z plan.offset plan.assign remat coords) f) → IsFrame o l i x plan frame
frame_made o l i x plan frame shape z raw remat coords is flags are agree raw_is lawful coded back =
    let values = values_are shape z (joint_of shape (coefficients x)) plan.offset plan.assign remat (joint_flags shape (coefficients x)) coords agree flags in
    record {
      shape = shape;
      shape_is = is;
      coords = coords;
      coords_are = are;
      raw = raw;
      raw_is = raw_is;
      lawful = lawful;
      coded = subst (λ (q : Quantised). IsPacked q frame) values coded;
      back = λ f reading. subst (λ (q : Quantised). IsBack q f) values (back f reading);
    }
