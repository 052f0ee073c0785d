use Rattle.std.proofs.Common.{sym, ◌∙◌, arith}
use Rattle.ac_base.specs.declared.runs.Run.{Run}
use Rattle.ac_cost.proofs.Covering.{first-has, none-has}
use Rattle.ac_coding.proofs.runs.find.Goals as goal

abbrev none : Run
none = record { from = 0; to = 0; kind = 0 }

pub returns-then-has : goal.returns-then-has
returns-then-has c =
    let i = c.loop-run.run-index in
    sym (first-has c.args.runs.now c.args.block i none (omega arith) (λ j l. c.loop-run.invariant j none l) (sym c.has.ensures ∙ c.if-has.true))

pub returns : goal.returns
returns c = sym (none-has c.args.runs.now c.args.block none (λ j l. c.loop-run.invariant j none (omega arith)))
