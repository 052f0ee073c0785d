use Rattle.std.proofs.Common.{refl, None}
use Rattle.ac_codec.proofs.Reading.{tested_bit_ok, tested_bit_out}
use Rattle.ac_codec.proofs.read.bit.Goals as goal

pub returns-in-Ok : goal.returns-in-Ok
returns-in-Ok c = tested_bit_ok c.in-Ok.v c.args.source.now c.take.new.self (λ b. None) c.in-Ok.ensures.taken.0 c.in-Ok.ensures.taken.1 refl

pub returns-in-Err : goal.returns-in-Err
returns-in-Err c = rw c.in-Err.ensures.out.1 (tested_bit_out c.args.source.now (λ b. None) c.in-Err.ensures.out.0)
