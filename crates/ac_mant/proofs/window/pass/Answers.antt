use Rattle.std.proofs.Common.{arith}
use Rattle.ac_mant.proofs.Windows.{dropped}
use Rattle.ac_mant.proofs.window.pass.Goals as goal

pub returns-in-Ok : goal.returns-in-Ok
returns-in-Ok c = dropped _ c.args.width c.args.source.now c.take.new.self c.in-Ok.ensures.taken.1

pub returns-in-Err : goal.returns-in-Err
returns-in-Err c = absurd (omega (arith, c.in-Err.ensures.out.0, c.requires.there))
