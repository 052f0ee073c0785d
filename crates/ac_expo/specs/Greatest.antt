-- The exponents of a run: the pointwise greatest list that its kind can spell and that is at most the raw
-- exponents of each block of the run. A/52 7.1.3 fixes what can be spelled; the choice of the greatest list is this
-- project's own.
use Rattle.std.specs.Prelude.{◌≡◌, ℕ, zero, suc, ◌+◌, ◌-◌, ◌*◌, ◌<◌, ◌≤◌, ◌==◌, min, Bool, false, if◌then◌else◌, List, [], slice_index, slice_index_or}
use Rattle.ac_base.specs.declared.spans.Span.{Span}
use Rattle.ac_base.specs.Spans.{IsIn, IsKind, is_coupling}
use Rattle.ac_base.specs.Shape.{IsSpan}
use Rattle.ac_expo.specs.Steps.{step_of, last_step}
use Rattle.ac_expo.specs.Least.{spread}

-- what a kind can spell (A/52 7.1.3): exponents 0 to 24, one for each step, steps that differ by at most 2, and 4 bits for bin 0
pub record IsSpellable (kind : ℕ) (span : Span) (exps : List ℕ) : Type 0 where
  pub small : (k : ℕ) → IsIn span k → slice_index exps k ≤ 24
  pub constant : (j k : ℕ) → IsIn span j → IsIn span k → step_of kind span j ≡ step_of kind span k
      → slice_index exps j ≡ slice_index exps k
  pub near : (j k : ℕ) → IsIn span j → IsIn span k → step_of kind span k ≡ step_of kind span j + 1
      → (slice_index exps k ≤ slice_index exps j + 2) × (slice_index exps j ≤ slice_index exps k + 2)
  pub first : is_coupling span.lead ≡ false → slice_index exps 0 ≤ 15

-- ---- the choice (this project's own)

-- at most the raw exponent of each bin of the span in each block from `from` up to but not `to`
abbrev pub IsUnder : Span → List (List ℕ) → ℕ → ℕ → List ℕ → Type 0
IsUnder span raw from to exps =
    (b k : ℕ) → from ≤ b → b < to → IsIn span k → slice_index exps k ≤ slice_index (slice_index_or raw b []) k

-- the exponents of a run
pub record IsGreatest (kind : ℕ) (span : Span) (raw : List (List ℕ)) (from to : ℕ) (exps : List ℕ) : Type 0 where
  pub spellable : IsSpellable kind span exps
  pub under : IsUnder span raw from to exps
  pub most : (others : List ℕ) (k : ℕ) → IsSpellable kind span others → IsUnder span raw from to others → IsIn span k
      → slice_index others k ≤ slice_index exps k

-- ---- the formula (this project's own)

-- the least raw exponent of a bin in n blocks, at most 24
unfoldable pub bin_least : List (List ℕ) → ℕ → ℕ → ℕ → ℕ
bin_least raw from zero bin = 24
bin_least raw from (suc n) bin = min (bin_least raw from n bin) (slice_index (slice_index_or raw (from + n) []) bin)

-- the least of f at the bins of a step, among n bins from the start; 24 if there is none
unfoldable pub step_least : ℕ → Span → (ℕ → ℕ) → ℕ → ℕ → ℕ
step_least kind span f zero step = 24
step_least kind span f (suc n) step =
    if step_of kind span (span.start + n) == step
    then min (step_least kind span f n step) (f (span.start + n))
    else step_least kind span f n step

-- the least raw exponent of the bins of a step that are below the end, over the blocks of the run
abbrev pub raw_least : ℕ → Span → List (List ℕ) → ℕ → ℕ → ℕ → ℕ
raw_least kind span raw from to step = step_least kind span (bin_least raw from (to - from)) (span.end - span.start) step

-- but in the coupling channel step g is at most 15 + 2 g, since bin 0 is at most 15
abbrev pub capped : Bool → ℕ → ℕ → ℕ
capped coupling step exponent = if coupling then exponent else min exponent (15 + 2 * step)

-- the exponent of a step
unfoldable pub step_exponent : ℕ → Span → List (List ℕ) → ℕ → ℕ → ℕ → ℕ
step_exponent kind span raw from to step =
    capped (is_coupling span.lead) step (spread (last_step kind span) (raw_least kind span raw from to) step)

-- the exponent of a bin in a run
abbrev pub exponent_of : ℕ → Span → List (List ℕ) → ℕ → ℕ → ℕ → ℕ
exponent_of kind span raw from to bin = step_exponent kind span raw from to (step_of kind span bin)

-- ---- laws of these definitions (this project's own)

-- the bins of the span have the exponents of the formula
abbrev pub IsByFormula : ℕ → Span → List (List ℕ) → ℕ → ℕ → List ℕ → Type 0
IsByFormula kind span raw from to exps = (k : ℕ) → IsIn span k → slice_index exps k ≡ exponent_of kind span raw from to k

-- the formula gives the greatest list
abbrev pub FormulaIsGreatest : Type 0
FormulaIsGreatest =
    (kind : ℕ) (span : Span) (raw : List (List ℕ)) (from to : ℕ) (exps : List ℕ)
    → IsSpan span → IsKind kind span → IsByFormula kind span raw from to exps → IsGreatest kind span raw from to exps

-- two greatest lists are one
abbrev pub GreatestIsOne : Type 0
GreatestIsOne =
    (kind : ℕ) (span : Span) (raw : List (List ℕ)) (from to : ℕ) (exps others : List ℕ)
    → IsGreatest kind span raw from to exps → IsGreatest kind span raw from to others
    → (k : ℕ) → IsIn span k → slice_index exps k ≡ slice_index others k

-- there is a greatest list
abbrev pub GreatestExists : Type 0
GreatestExists =
    (kind : ℕ) (span : Span) (raw : List (List ℕ)) (from to : ℕ)
    → IsSpan span → IsKind kind span → (exps : List ℕ) × IsGreatest kind span raw from to exps
