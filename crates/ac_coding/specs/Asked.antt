-- What is asked of coefficients, an offset, an assignment and coupling coordinates, so that there is a frame of them.
use Rattle.std.specs.Prelude.{◌≡◌, ℕ, ◌<◌, ◌≤◌, ◌^◌, unsigned_abs, List, [], slice_index_or}
use Rattle.ac_base.specs.declared.shapes.Shape.{Shape}
use Rattle.ac_base.specs.Shape.{full_of, subbands}
use Rattle.ac_base.specs.Spans.{IsIn}
use Rattle.ac_expo.specs.declared.word.Assign.{Assign}
use Rattle.ac_expo.specs.Raw.{channel_span, channels, raw_of}
use Rattle.ac_cost.specs.Runs.{IsAssignmentOf}
use Rattle.ac_cost.specs.Parts.{FitsAt}
use Rattle.ac_coordinates.specs.declared.Coordinate.{Coordinate}
use Rattle.ac_coordinates.specs.declared.Coordinates.{Coordinates}
use Rattle.ac_record.specs.Readings.{cell}
use Rattle.ac_sent.specs.Asked.{IsSizeCode}
use Rattle.ac_energy.specs.Coefficients.{Coefficients}

-- a list has the raw exponents of coefficients at the bins of the spans (A/52 8.2.7)
abbrev pub AreRawOf : Shape → Coefficients → List (List (List ℕ)) → Type 0
AreRawOf shape x raw =
    (c b k : ℕ) → c < channels shape → b < 6 → IsIn (channel_span shape c) k → cell raw c b k ≡ raw_of (x c b k)

-- the coordinate of a full channel in a band
abbrev pub coordinate_of : Coordinates → ℕ → ℕ → Coordinate
coordinate_of coords i k = slice_index_or (slice_index_or coords.of i []) k (record { exp = 0; mant = 0 })

-- the assignment fits at the offset, with the raw exponents of the coefficients, and each field has room for its value
pub record IsAsked (shape : Shape) (x : Coefficients) (t : ℕ) (assign : Assign) (coords : Coordinates) : Type 0 where
  pub small : (c b k : ℕ) → c < channels shape → b < 6 → IsIn (channel_span shape c) k → unsigned_abs (x c b k) < 2 ^ 24
  pub raw : List (List (List ℕ))
  pub are_raw : AreRawOf shape x raw
  pub offset : t ≤ 1023
  pub assigned : IsAssignmentOf shape assign.w
  pub fits : FitsAt shape raw t assign.w
  pub sized : (code : ℕ) × IsSizeCode shape.fscod shape.words code
  pub coordinates : (i k : ℕ) → i < full_of shape.acmod → k < subbands shape.couple
      → ((coordinate_of coords i k).exp ≤ 15) × ((coordinate_of coords i k).mant ≤ 15)
