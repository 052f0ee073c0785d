-- The bins of a channel are some of the 253 bins.
use Rattle.std.proofs.Common.{ℕ, ◌<◌, ◌≤◌, arith}
use Rattle.ac_base.specs.declared.spans.Span.{Span}
use Rattle.ac_base.specs.declared.spans.Lead.{Lead}
use Rattle.ac_base.specs.declared.spans.Lead.TheVariants.{Free, Coupled, Coupling, Low}
use Rattle.ac_base.specs.Shape.{IsSpan, IsSpanOf}

bins_of : (lead : Lead) (start end : ℕ) → IsSpanOf lead start end → (start < end) × (end ≤ 253)
bins_of Free start end is = (omega arith, omega arith)
bins_of Coupled start end is = (omega arith, omega arith)
bins_of Coupling start end is = (omega arith, omega arith)
bins_of Low start end is = (omega arith, omega arith)

-- there is a bin
pub span_some : (s : Span) → IsSpan s → s.start < s.end
span_some s is = (bins_of s.lead s.start s.end is).0

-- and the last is at most bin 252
pub span_end : (s : Span) → IsSpan s → s.end ≤ 253
span_end s is = (bins_of s.lead s.start s.end is).1
