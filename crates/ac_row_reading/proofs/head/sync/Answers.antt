use Rattle.std.proofs.Common.{◌≡◌, Some, None, arith, refl}
use Rattle.std.proofs.lemmas.Grind.{common_steps}
use Rattle.ac_codec.specs.declared.refused.Refused.TheVariants.{BadSync}
use Rattle.ac_rows.specs.HeadRows.{sync_only}
use Rattle.ac_codec.proofs.Reading.{field_ok, field_refused, field_out}
use Rattle.ac_row_reading.proofs.head.sync.Goals as goal

pub returns-in-Ok-eq2935 : goal.returns-in-Ok-eq2935
returns-in-Ok-eq2935 c =
    let e = rw c.in-Ok-eq2935.field-0-test at c.in-Ok-eq2935.ensures.taken in
    let lawful : sync_only 2935 ≡ None = refl in
    field_ok 16 2935 c.args.source.now c.take.new.self sync_only e.0 e.1 lawful

pub returns-in-Ok : goal.returns-in-Ok
returns-in-Ok c =
    let refused : sync_only c.in-Ok.field-0 ≡ Some BadSync = grind (arith, common_steps) in
    rw c.copy-before.ensures (field_refused 16 c.in-Ok.field-0 c.args.source.now c.take.new.self sync_only BadSync c.in-Ok.ensures.taken.0
    c.in-Ok.ensures.taken.1 refused)

pub returns-in-Err : goal.returns-in-Err
returns-in-Err c = rw c.in-Err.ensures.out.1 (field_out 16 c.args.source.now sync_only c.in-Err.ensures.out.0)
