-- Steps of exponents (A/52 7.1.2, 7.1.3).
use Rattle.std.specs.Prelude.{ℕ, ◌+◌, ◌-◌, ◌*◌, ◌/◌, if◌then◌else◌}
use Rattle.ac_base.specs.declared.spans.Lead.{Lead}
use Rattle.ac_base.specs.declared.spans.Span.{Span}
use Rattle.ac_base.specs.Spans.{is_coupling, width, groups_of}

-- how far step 0 reaches before the start. Steps are this project's own word for the bins of one difference
abbrev pub ahead : ℕ → Lead → ℕ
ahead kind lead = if is_coupling lead then width kind else width kind - 1

-- the step of a bin: step 0 is bin 0, and each later step has the bins of one difference; in the coupling channel
-- step 0 is the reference, which has no bin, and step 1 begins at the start
unfoldable pub step_of : ℕ → Span → ℕ → ℕ
step_of kind span bin = (bin - span.start + ahead kind span.lead) / width kind

-- the first bin of a step
unfoldable pub bin_of : ℕ → Span → ℕ → ℕ
bin_of kind span step = span.start + (step * width kind - ahead kind span.lead)

-- the last step that a list spells, three differences a group (A/52 7.1.3)
abbrev pub last_step : ℕ → Span → ℕ
last_step kind span = 3 * groups_of kind span
