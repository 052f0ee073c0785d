use Rattle.std.proofs.Common.{◌≡◌, None, arith, refl, false}
use Rattle.std.proofs.lemmas.Grind.{common_steps}
use Rattle.ac_codec.specs.declared.refused.Refused.TheVariants.{NoReuse}
use Rattle.ac_codec.specs.Codec.{reused}
use Rattle.ac_codec.proofs.Reading.{field_ok, field_refused, field_out}
use Rattle.ac_codec.proofs.read.some.Goals as goal

pub returns-in-Ok-eq0 : goal.returns-in-Ok-eq0
returns-in-Ok-eq0 c =
    let e = rw c.in-Ok-eq0.field-0-test at c.in-Ok-eq0.ensures.taken in
    rw c.copy-before.ensures (field_refused c.args.width 0 c.args.source.now c.take.new.self (reused false c.args.row) (NoReuse c.args.row)
    e.0 e.1 refl)

pub returns-in-Ok : goal.returns-in-Ok
returns-in-Ok c =
    let lawful : reused false c.args.row c.in-Ok.v ≡ None = grind (arith, common_steps) in
    field_ok c.args.width c.in-Ok.v c.args.source.now c.take.new.self (reused false c.args.row) c.in-Ok.ensures.taken.0
    c.in-Ok.ensures.taken.1 lawful

pub returns-in-Err : goal.returns-in-Err
returns-in-Err c = rw c.in-Err.ensures.out.1 (field_out c.args.width c.args.source.now (reused false c.args.row) c.in-Err.ensures.out.0)
