use Rattle.std.proofs.Common.{◌≡◌, Some, None, arith, refl}
use Rattle.std.proofs.lemmas.Grind.{common_steps}
use Rattle.ac_codec.specs.declared.refused.Refused.TheVariants.{BadBsid}
use Rattle.ac_rows.specs.HeadRows.{eight_only}
use Rattle.ac_codec.proofs.Reading.{field_ok, field_refused, field_out}
use Rattle.ac_row_reading.proofs.head.version.Goals as goal

pub returns-in-Ok-eq8 : goal.returns-in-Ok-eq8
returns-in-Ok-eq8 c =
    let e = rw c.in-Ok-eq8.field-0-test at c.in-Ok-eq8.ensures.taken in
    let lawful : eight_only 8 ≡ None = refl in
    field_ok 5 8 c.args.source.now c.take.new.self eight_only e.0 e.1 lawful

pub returns-in-Ok : goal.returns-in-Ok
returns-in-Ok c =
    let refused : eight_only c.in-Ok.v ≡ Some (BadBsid c.in-Ok.v) = grind (arith, common_steps) in
    rw c.copy-before.ensures (field_refused 5 c.in-Ok.v c.args.source.now c.take.new.self eight_only (BadBsid c.in-Ok.v)
    c.in-Ok.ensures.taken.0 c.in-Ok.ensures.taken.1 refused)

pub returns-in-Err : goal.returns-in-Err
returns-in-Err c = rw c.in-Err.ensures.out.1 (field_out 5 c.args.source.now eight_only c.in-Err.ensures.out.0)
