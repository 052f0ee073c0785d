use Rattle.std.proofs.Common.{arith}
use Rattle.ac_levels.proofs.Filling.{before, before_six}
use Rattle.ac_levels.proofs.rows.row.Goals as goal

pub overflow_add-kind : goal.overflow_add-kind
overflow_add-kind c = omega (arith, c.before-2.ensures, before c.args.from 6 (omega arith), before_six)

pub overflow_add-kind-2 : goal.overflow_add-kind-2
overflow_add-kind-2 c = omega (arith, c.before-2.ensures, before c.args.from 6 (omega arith), before_six)

pub returns-clause-bound : goal.returns-clause-bound
returns-clause-bound c = omega (arith, c.from.ensures, c.before-2.ensures, before c.args.from 6 (omega arith), before_six)
