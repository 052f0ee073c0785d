use Rattle.std.proofs.Common.{Some, None, arith}
use Rattle.std.specs.Prelude.{◌&&◌, nat_lt, if◌then◌else◌}
use Rattle.std.specs.Option.{option_or}
use Rattle.ac_rows.specs.Filled.{entry, holds}
use Rattle.ac_rows.proofs.Listed.{is_listed}
use Rattle.ac_syntax.proofs.filling.phase_flags_where.Goals as goal

pub returns : goal.returns
returns c =
    let l = c.loop-j in
    is_listed 18 l.all (λ j. if c.args.two && nat_lt j c.args.c.now.bands then Some
    (c.args.c.now.phases && holds (option_or (entry c.args.own.now j) (entry c.args.kept.now j))) else None) None l.invariant.len
    (λ k lt. l.invariant.each k (omega (arith, c.loop-j-test.false)))
