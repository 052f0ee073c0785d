use Rattle.std.proofs.Common.{ℕ, replicate, refl, arith}
use Rattle.ac_expo.specs.Greatest.{exponent_of}
use Rattle.ac_coding.proofs.Entries.{row_over}
use Rattle.ac_coding.proofs.exponents.write_row.Goals as goal

pub returns : goal.returns
returns c =
    let run = c.args.run.now in
    row_over c.args.span.now (exponent_of run.kind c.args.span.now c.args.raw.now run.from run.to) (replicate {A = ℕ} 256 0) c.greatest.new.out refl (omega arith) c.greatest.ensures.value c.greatest.ensures.rest
