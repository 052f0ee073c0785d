-- What the code holds of the rows of a frame, for the code.
use Rattle.std.specs.Prelude.{◌≡◌, ℕ, ◌+◌, ◌*◌, ◌<◌, ◌≤◌, ◌^◌, if◌then◌else◌, unsigned_abs, List, [], length, slice_index, slice_index_or}
use Rattle.ac_base.specs.declared.shapes.Shape.{Shape}
use Rattle.ac_base.specs.declared.spans.Span.{Span}
use Rattle.ac_base.specs.Spans.{IsIn}
use Rattle.ac_base.specs.Words.{word_of}
use Rattle.ac_expo.specs.Greatest.{exponent_of}
use Rattle.ac_expo.specs.Raw.{channel_span, channels}
use Rattle.ac_mant.specs.Quantiser.{code_of}
use Rattle.ac_rows.specs.Filled.{listed}
use Rattle.ac_record.specs.Channels.{is_in}
use Rattle.ac_record.specs.Readings.{cell}
use Rattle.ac_energy.specs.Coefficients.{Coefficients}
use Rattle.ac_coding.specs.Values.{run_at, pointer_by}

-- f at the bins of a span, and 0 elsewhere
unfoldable pub row_in : Span → (ℕ → ℕ) → List ℕ
row_in span f = listed 256 0 (λ k. if is_in span k then f k else 0)

-- the exponent of a bin, by a list of raw exponents
abbrev pub exponent_by : Shape → List (List (List ℕ)) → List (List ℕ) → ℕ → ℕ → ℕ → ℕ
exponent_by shape raw assign c b k =
    exponent_of (run_at assign c b).kind (channel_span shape c) (slice_index_or raw c []) (run_at assign c b).from (run_at assign c b).to k

-- the code of a bin
abbrev pub code_by : Shape → Coefficients → List (List (List ℕ)) → ℕ → ℕ → ℕ → ℕ → ℕ
code_by shape x exps t c b k = code_of (x c b k) (cell exps c b k) (pointer_by shape exps t c b k)

-- a row has the pointers of coded channel c in block b
abbrev pub ArePointersIn : Shape → List (List (List ℕ)) → ℕ → ℕ → ℕ → List ℕ → Type 0
ArePointersIn shape exps t c b row = (k : ℕ) → IsIn (channel_span shape c) k → slice_index row k ≡ pointer_by shape exps t c b k

-- exponents with which the coefficients can be coded, by runs
pub record AreHeld (shape : Shape) (x : Coefficients) (assign : List (List ℕ)) (exps : List (List (List ℕ))) : Type 0 where
  pub small : (c b k : ℕ) → c < channels shape → b < 6 → IsIn (channel_span shape c) k → cell exps c b k ≤ 24
  pub below : (c b k : ℕ) → c < channels shape → b < 6 → IsIn (channel_span shape c) k
      → unsigned_abs (x c b k) * 2 ^ cell exps c b k < 2 ^ 24
  pub kept : (c b : ℕ) → c < channels shape → b < 5 → slice_index (word_of assign c) (b + 1) ≡ 0
      → slice_index_or (slice_index_or exps c []) (b + 1) [] ≡ slice_index_or (slice_index_or exps c []) b []

-- a row has f at the bins of a span before k, and 0 outside the span
pub record IsPut (span : Span) (f : ℕ → ℕ) (row : List ℕ) (k : ℕ) : Type 0 where
  pub before : (j : ℕ) → span.start ≤ j → j < k → slice_index row j ≡ f j
  pub outside : (j : ℕ) → j < 256 → (IsIn span j → ⊥) → slice_index row j ≡ 0
  pub long : length row ≡ 256
