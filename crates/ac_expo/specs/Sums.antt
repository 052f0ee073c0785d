-- The exponents of steps by a list of sums: the sum of step g is its exponent and 2 g. Both words serve the reader's
-- refusals, which are this project's own.
use Rattle.std.specs.Prelude.{◌≡◌, ℕ, ◌+◌, ◌-◌, ◌*◌, ◌/◌, ◌%◌, ◌<◌, ◌≤◌, ◌⊎◌, List, slice_index, slice_set}
use Rattle.ac_base.specs.declared.spans.Lead.{Lead}
use Rattle.ac_base.specs.Spans.{IsIn}
use Rattle.ac_base.specs.declared.spans.Span.{Span}
use Rattle.ac_expo.specs.Groups.{sum_to}
use Rattle.ac_expo.specs.Spelling.{Spelling}
use Rattle.ac_expo.specs.Steps.{step_of}

-- a list has the sums of the first steps, up to step n
abbrev pub AreSums : Lead → Spelling → ℕ → List ℕ → Type 0
AreSums lead spelled n sums = (g : ℕ) → g ≤ n → slice_index sums g ≡ sum_to lead spelled g

-- the sums of the three steps of a group, put behind that of the step before them, which is at a place
abbrev pub with_group : ℕ → ℕ → ℕ → List ℕ → List ℕ
with_group group at sum sums =
    let first = sum + group / 25 in
    let second = first + group / 5 % 5 in
    slice_set (slice_set (slice_set sums (at + 1) first) (at + 2) second) (at + 3) (second + group % 5)

-- a step up to the last one with a bin has an exponent outside 0 to 24
abbrev pub IsBadSum : List ℕ → ℕ → ℕ → Type 0
IsBadSum sums last step = (step ≤ last) × ((slice_index sums step < 2 * step) ⊎ (2 * step + 24 < slice_index sums step))

-- one of the three steps behind this one has
abbrev pub HasBadSum : List ℕ → ℕ → ℕ → Type 0
HasBadSum sums last step = IsBadSum sums last (step + 1) ⊎ (IsBadSum sums last (step + 2) ⊎ IsBadSum sums last (step + 3))

-- the group is over 124, or one of its three steps has
abbrev pub IsBadGroup : ℕ → List ℕ → ℕ → ℕ → Type 0
IsBadGroup group sums last step = (124 < group) ⊎ HasBadSum sums last step

-- the step has an exponent from 0 to 24
abbrev pub IsGoodSum : List ℕ → ℕ → Type 0
IsGoodSum sums step = (2 * step ≤ slice_index sums step) × (slice_index sums step ≤ 2 * step + 24)

-- and so has each bin of the span
abbrev pub AreGoodSums : ℕ → Span → List ℕ → Type 0
AreGoodSums kind span sums = (k : ℕ) → IsIn span k → IsGoodSum sums (step_of kind span k)

-- the bins of the span have the exponents of their steps
abbrev pub AreOfSums : ℕ → Span → List ℕ → List ℕ → Type 0
AreOfSums kind span sums exps =
    (k : ℕ) → IsIn span k → slice_index exps k ≡ slice_index sums (step_of kind span k) - 2 * step_of kind span k
