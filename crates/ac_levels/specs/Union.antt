-- The exponents of a run by those of its blocks, each a run of its own (this project's own; the exponents of a run: A/52 7.1.3).
use Rattle.std.specs.Prelude.{◌≡◌, ℕ, ◌+◌, ◌-◌, ◌<◌, ◌≤◌, min, List, slice_index}
use Rattle.ac_base.specs.declared.spans.Span.{Span}
use Rattle.ac_base.specs.Shape.{IsSpan}
use Rattle.ac_base.specs.Spans.{IsIn, IsKind}
use Rattle.ac_expo.specs.Least.{least}
use Rattle.ac_expo.specs.Greatest.{IsGreatest, exponent_of}

-- a run cut in two: bin by bin the least of both exponents
abbrev pub UnionIsLeast : Type 0
UnionIsLeast =
    (kind : ℕ) (span : Span) (raw : List (List ℕ)) (from mid to k : ℕ) → from ≤ mid → mid ≤ to
    → exponent_of kind span raw from to k ≡ min (exponent_of kind span raw from mid k) (exponent_of kind span raw mid to k)

-- a run is the least of its blocks
abbrev pub RunIsLeastOfBlocks : Type 0
RunIsLeastOfBlocks =
    (kind : ℕ) (span : Span) (raw : List (List ℕ)) (from to k : ℕ) → from < to
    → exponent_of kind span raw from to k ≡ least (to - from - 1) (λ b. exponent_of kind span raw (from + b) (from + b + 1) k)

-- the same of greatest lists
abbrev pub UnionIsGreatest : Type 0
UnionIsGreatest =
    (kind : ℕ) (span : Span) (raw : List (List ℕ)) (from mid to : ℕ) (front back both : List ℕ) → IsSpan span → IsKind kind span
    → from ≤ mid → mid ≤ to → IsGreatest kind span raw from mid front → IsGreatest kind span raw mid to back
    → ((k : ℕ) → IsIn span k → slice_index both k ≡ min (slice_index front k) (slice_index back k)) → IsGreatest kind span raw from to both
