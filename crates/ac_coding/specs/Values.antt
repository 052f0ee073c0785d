-- What this encoder hands in for a frame, by the coefficients of its coded channels, an SNR offset and an assignment of strategies: in
-- each run the greatest exponents that its kind can spell, and at each bin the code of its coefficient by its exponent and its pointer
-- (A/52 8.2.7 to 8.2.12; that the greatest exponents are taken is this project's own). x c b k is the coefficient of coded channel c
-- in block b at bin k.
use Rattle.std.specs.Prelude.{ℕ, ◌&&◌, ◌==◌, nat_lt, Bool, if◌then◌else◌, ℤ, pos, List, [], slice_index_or}
use Rattle.ac_base.specs.declared.runs.Run.{Run}
use Rattle.ac_base.specs.declared.shapes.Shape.{Shape}
use Rattle.ac_base.specs.Words.{runs_of, word_of}
use Rattle.ac_expo.specs.declared.word.Assign.{Assign}
use Rattle.ac_expo.specs.Greatest.{exponent_of}
use Rattle.ac_expo.specs.Raw.{channel_span, channels, raw_of}
use Rattle.ac_cost.specs.Runs.{run_with}
use Rattle.ac_alloc.specs.Codes.{encoder_params}
use Rattle.ac_alloc.specs.Pointers.{pointer}
use Rattle.ac_mant.specs.Quantiser.{code_of}
use Rattle.ac_coordinates.specs.declared.Coordinates.{Coordinates}
use Rattle.ac_energy.specs.Coefficients.{Coefficients}
use Rattle.ac_rows.specs.Filled.{listed}
use Rattle.ac_record.specs.Channels.{is_in}
use Rattle.ac_record.specs.Readings.{cell}
use Rattle.ac_sent.specs.Packed.{IsPacked}
use Rattle.ac_sent.specs.Values.{Quantised}

-- a row of an array by coded channel, block and bin: f at the bins of the channel's span, and 0 elsewhere
abbrev pub row_at : Shape → (ℕ → ℕ → ℕ → ℕ) → ℕ → ℕ → List ℕ
row_at shape f c b = listed 256 0 (λ k. if nat_lt c (channels shape) && is_in (channel_span shape c) k then f c b k else 0)

-- the array: f at the bins of each coded channel's span, and 0 elsewhere
abbrev pub in_spans : Shape → (ℕ → ℕ → ℕ → ℕ) → List (List (List ℕ))
in_spans shape f = listed 7 0 (λ c. listed 6 0 (row_at shape f c))

-- the raw exponents of a coded channel, by block and bin (A/52 8.2.7)
abbrev pub raw_rows : Coefficients → ℕ → List (List ℕ)
raw_rows x c = listed 6 0 (λ b. listed 256 0 (λ k. raw_of (x c b k)))

-- the run of a coded channel that has block b
abbrev pub run_at : List (List ℕ) → ℕ → ℕ → Run
run_at assign c b = run_with (runs_of (word_of assign c)) b

-- the exponent of a bin: that of the greatest list of its run
abbrev pub exponent_at : Shape → Coefficients → List (List ℕ) → ℕ → ℕ → ℕ → ℕ
exponent_at shape x assign c b k =
    exponent_of (run_at assign c b).kind (channel_span shape c) (raw_rows x c) (run_at assign c b).from (run_at assign c b).to k

-- all exponents
unfoldable pub exponents : Shape → Coefficients → List (List ℕ) → List (List (List ℕ))
exponents shape x assign = in_spans shape (exponent_at shape x assign)

-- the bit allocation pointer of a bin by all exponents (A/52 7.2); at offset 0 all SNR offset codes are 0
abbrev pub pointer_by : Shape → List (List (List ℕ)) → ℕ → ℕ → ℕ → ℕ → ℕ
pointer_by shape exps t c b k =
    pointer (t == 0) (encoder_params shape.fscod shape.sampling) (channel_span shape c) (slice_index_or (slice_index_or exps c []) b []) k t

-- all codes by all exponents (A/52 7.3, 8.2.12)
unfoldable pub codes : Shape → Coefficients → List (List (List ℕ)) → ℕ → List (List (List ℕ))
codes shape x exps t = in_spans shape (λ c b k. code_of (x c b k) (cell exps c b k) (pointer_by shape exps t c b k))

-- the values that are handed in, with these rematrix flags and coupling coordinates
unfoldable pub values_of : Shape → Coefficients → ℕ → Assign → List Bool → Coordinates → Quantised
values_of shape x t assign remat coords = record {
  shape = shape;
  t = t;
  assign = assign;
  exps = exponents shape x assign.w;
  codes = codes shape x (exponents shape x assign.w) t;
  remat = remat;
  coords = coords;
}

-- these bytes are the frame of these coefficients at an offset with an assignment: the one list of bits of these values
abbrev pub IsCoded : Shape → Coefficients → ℕ → Assign → List Bool → Coordinates → List ℕ → Type 0
IsCoded shape x t assign remat coords frame = IsPacked (values_of shape x t assign remat coords) frame
