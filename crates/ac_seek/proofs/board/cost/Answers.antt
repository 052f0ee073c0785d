use Rattle.std.proofs.Common.{◌≡◌, ◌/◌, false, subst}
use Rattle.ac_base.specs.declared.shapes.Shape.{Shape}
use Rattle.ac_cost.specs.Runs.{IsRunOf}
use Rattle.ac_seek.proofs.Places.{cost-is, run-back, run_at}
use Rattle.ac_seek.proofs.board.cost.Goals as goal

pub returns-then-is_run-clause-value : goal.returns-then-is_run-clause-value
returns-then-is_run-clause-value g c =
    cost-is (g.C.RunCosts.offset c.args.table.now) c.args.place c.run_sixths.result c.run_sixths.ensures.value

pub returns-else-is_run-clause-value : goal.returns-else-is_run-clause-value
returns-else-is_run-clause-value g c = λ s part is p e.
    let place = c.args.place in
    let run = subst (λ (shape : Shape). IsRunOf shape (place / 126) (run_at place)) c.requires.same (run-back (g.C.RunCosts.offset c.args.table.now).shape place s is e) in
    let true_is = c.is_run.ensures.1 run in
    let false_is : c.is_run.result ≡ false = c.if-is_run.false in
    absurd cc
