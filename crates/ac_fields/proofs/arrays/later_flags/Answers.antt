use Rattle.std.proofs.Common.{None, arith}
use Rattle.std.specs.Prelude.{◌&&◌, nat_lt, nat_le}
use Rattle.ac_rows.proofs.Listed.{is_listed}
use Rattle.ac_sent.specs.Fields.{when}
use Rattle.ac_fields.proofs.arrays.later_flags.Goals as goal

pub returns : goal.returns
returns c =
    let l = c.loop-k in
    is_listed 18 l.all
    (λ k. when (c.args.there && nat_le 1 k && nat_lt k c.args.subbands) c.args.value)
    None l.invariant.len (λ k lt. l.invariant.each k (omega (arith, c.loop-k-test.false)))
