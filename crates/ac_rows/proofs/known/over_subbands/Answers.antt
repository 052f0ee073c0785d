use Rattle.std.proofs.Common.{None, arith}
use Rattle.std.specs.Option.{option_or}
use Rattle.ac_rows.specs.Filled.{entry}
use Rattle.ac_rows.proofs.Listed.{is_listed}
use Rattle.ac_rows.proofs.known.over_subbands.Goals as goal

pub returns : goal.returns
returns c =
    let l = c.loop-k in
    is_listed 18 l.all (λ k. option_or (entry c.args.own.now k) (entry c.args.kept.now k)) None l.invariant.len
    (λ k lt. l.invariant.each k (omega (arith, c.loop-k-test.false)))
