use Rattle.std.proofs.Common.{refl}
use Rattle.ac_codec.specs.Codec.{any}
use Rattle.ac_codec.proofs.Reading.{field_ok, field_out}
use Rattle.ac_codec.proofs.read.number.Goals as goal

pub returns-in-Ok-clause-told : goal.returns-in-Ok-clause-told
returns-in-Ok-clause-told c =
    field_ok c.args.width c.in-Ok.v c.args.source.now c.take.new.self any c.in-Ok.ensures.taken.0 c.in-Ok.ensures.taken.1 refl

pub returns-in-Err-clause-told : goal.returns-in-Err-clause-told
returns-in-Err-clause-told c = rw c.in-Err.ensures.out.1 (field_out c.args.width c.args.source.now any c.in-Err.ensures.out.0)
