use Rattle.std.proofs.Common.{◌<◌, arith}
use Rattle.std.proofs.lemmas.Int.{ints}
use Rattle.ac_base.proofs.HalfWindow.{window_bound}
use Rattle.ac_base.proofs.window_table.window.Goals as goal

pub returns-clause-bound : goal.returns-clause-bound
returns-clause-bound c =
    let below : c.from.result < 256 = omega arith in
    let bound = window_bound c.from.result below in
    omega (arith, ints)
