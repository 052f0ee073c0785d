-- Groups that give exponents to all bins of a span, be they sent for it or for one that ends later.
use Rattle.std.specs.Prelude.{ℕ, ◌+◌, ◌*◌, ◌≤◌, length}
use Rattle.ac_base.specs.declared.spans.Span.{Span}
use Rattle.ac_base.specs.Shape.{IsSpan}
use Rattle.ac_base.specs.Spans.{IsIn, IsKind}
use Rattle.ac_expo.specs.Spelling.{Spelling}
use Rattle.ac_expo.specs.Steps.{step_of}
use Rattle.ac_expo.specs.Groups.{sum_to}

pub record Spells (kind : ℕ) (span : Span) (s : Spelling) : Type 0 where
  pub is_kind : IsKind kind span
  pub is_span : IsSpan span
  pub first : s.first ≤ 15
  -- each step of a bin is there
  pub there : (k : ℕ) → IsIn span k → step_of kind span k ≤ 3 * length s.groups
  -- with an exponent from 0 to 24
  pub least : (k : ℕ) → IsIn span k → 2 * step_of kind span k ≤ sum_to span.lead s (step_of kind span k)
  pub most : (k : ℕ) → IsIn span k → sum_to span.lead s (step_of kind span k) ≤ 2 * step_of kind span k + 24
