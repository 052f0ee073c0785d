use Rattle.std.proofs.Common.{[], arith}
use Rattle.ac_rows.proofs.Listed.{is_listed}
use Rattle.ac_coding.specs.Rows.{exponent_by}
use Rattle.ac_coding.specs.Values.{row_at}
use Rattle.ac_coding.proofs.exponents.write_channel.Goals as goal

pub returns : goal.returns
returns c =
    let shape = c.args.shape.now in
    is_listed 6 c.loop-b.rows (row_at shape (exponent_by shape c.args.raw.now.e c.args.assign.now.w) c.args.c) [] c.loop-b.invariant.0 (λ a lt. c.loop-b.invariant.1 a (omega (arith, lt)))
