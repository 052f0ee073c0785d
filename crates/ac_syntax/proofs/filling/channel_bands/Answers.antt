use Rattle.std.proofs.Common.{None, arith}
use Rattle.std.specs.Prelude.{◌&&◌, nat_lt}
use Rattle.ac_rows.specs.Filled.{entry}
use Rattle.ac_syntax.specs.Filling.{or_if}
use Rattle.ac_rows.proofs.Listed.{is_listed}
use Rattle.ac_syntax.proofs.filling.channel_bands.Goals as goal

pub returns : goal.returns
returns c =
    let l = c.loop-j in
    is_listed 18 l.all (λ j. or_if (c.args.coupled && nat_lt j c.args.bands) (entry c.args.own.now j) (entry c.args.kept.now j)) None
    l.invariant.len (λ k lt. l.invariant.each k (omega (arith, c.loop-j-test.false)))
