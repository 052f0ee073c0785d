use Rattle.std.proofs.Common.{ℕ, Option, arith, sym, subst, ◌∙◌}
use Rattle.ac_expo.specs.Spelling.{Spelling}
use Rattle.ac_record.specs.Channels.{is_in}
use Rattle.ac_record.specs.Held.{exponent_by}
use Rattle.ac_reading.specs.Cells.{IsRow}
use Rattle.ac_reading.proofs.Rows.{if_zero}
use Rattle.ac_reading.proofs.exponents.row_by.Goals as goal

pub returns-in-None-clause-value : goal.returns-in-None-clause-value
returns-in-None-clause-value c =
    subst (λ (o : Option (ℕ × Spelling)). IsRow c.args.span.now (exponent_by c.args.span.now o) c.blank_row.result) (sym c.in-None.is) (λ k. c.blank_row.ensures k ∙ sym (if_zero (is_in c.args.span.now k)))

pub returns-in-None-clause-bound : goal.returns-in-None-clause-bound
returns-in-None-clause-bound c = λ k low high. omega (arith, c.blank_row.ensures k)
