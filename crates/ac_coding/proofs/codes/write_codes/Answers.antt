use Rattle.std.proofs.Common.{[], arith}
use Rattle.ac_rows.specs.Filled.{listed}
use Rattle.ac_rows.proofs.Listed.{is_listed}
use Rattle.ac_coding.specs.Rows.{code_by}
use Rattle.ac_energy.specs.Coefficients.{entry}
use Rattle.ac_coding.specs.Values.{row_at}
use Rattle.ac_coding.proofs.codes.write_codes.Goals as goal

pub returns : goal.returns
returns c =
    let shape = c.args.shape.now in
    is_listed 7 c.loop-c.out (λ d. listed 6 0 (row_at shape (code_by shape (entry c.args.coefs.now.c) c.args.exps.now c.args.t) d)) [] c.loop-c.invariant.0 (λ d lt. c.loop-c.invariant.1 d (omega (arith, lt)))
