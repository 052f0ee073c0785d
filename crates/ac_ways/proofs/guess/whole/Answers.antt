use Rattle.std.proofs.Common.{sym, subst, arith}
use Rattle.ac_base.specs.declared.shapes.Shape.{Shape}
use Rattle.ac_cost.specs.Runs.{IsRunOf}
use Rattle.ac_bound.specs.Steps.{between}
use Rattle.ac_bound.proofs.Leasts.{between-is}
use Rattle.ac_ways.proofs.guess.whole.Goals as goal

pub run_window-requires-clause-run : goal.run_window-requires-clause-run
run_window-requires-clause-run c =
    let kind = c.args.kind in
    subst (λ (s : Shape). IsRunOf s c.args.c (between 0 6 kind)) (sym c.requires.same)
    (between-is c.args.shape.now c.args.c 0 6 kind c.requires.channel (omega arith) (omega arith) c.requires.some c.requires.taken)
