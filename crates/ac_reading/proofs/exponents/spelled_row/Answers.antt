use Rattle.std.proofs.Common.{◌-◌, ◌*◌, ℕ, ap, ◌∙◌}
use Rattle.ac_expo.specs.Groups.{spelled_exponent}
use Rattle.ac_expo.specs.Steps.{step_of}
use Rattle.ac_reading.proofs.Rows.{row_from, zero_at}
use Rattle.ac_reading.proofs.exponents.spelled_row.Goals as goal

pub returns-clause-value : goal.returns-clause-value
returns-clause-value c =
    let kind = c.args.kind in
    let span = c.args.span.now in
    row_from span (λ k. spelled_exponent span.lead c.args.spelled.now (step_of kind span k)) c.write.new.out
    (λ k i. c.write.ensures.value k i ∙ ap (λ (n : ℕ). n - 2 * step_of kind span k) (c.sums_of-sums.ensures (step_of kind span k) (c.requires.there k i)))
    (λ k out. c.write.ensures.rest k out ∙ zero_at 256 k)
