use Rattle.std.proofs.Common.{◌≡◌, ◌==◌, Some, refl, false, true}
use Rattle.ac_codec.specs.Codec.{one_where}
use Rattle.ac_codec.proofs.Reading.{tested_bit_ok, tested_bit_refused, tested_bit_out, is_one}
use Rattle.ac_codec.proofs.read.clear.Goals as goal

pub returns-in-Ok-eq0 : goal.returns-in-Ok-eq0
returns-in-Ok-eq0 c =
    let e = rw c.in-Ok-eq0.field-0-test at c.in-Ok-eq0.ensures.taken in
    tested_bit_ok 0 c.args.source.now c.take.new.self (one_where false c.args.refused) e.0 e.1 refl

pub returns-in-Ok : goal.returns-in-Ok
returns-in-Ok c =
    let v = c.in-Ok.field-0 in
    let one : (v == 1) ≡ true = is_one v c.in-Ok.ensures.taken.0 c.in-Ok.field-0-test.1 in
    let refused : one_where false c.args.refused (v == 1) ≡ Some c.args.refused = rw one refl in
    rw c.copy-before.ensures (tested_bit_refused v c.args.source.now c.take.new.self (one_where false c.args.refused) c.args.refused
    c.in-Ok.ensures.taken.0 c.in-Ok.ensures.taken.1 refused)

pub returns-in-Err : goal.returns-in-Err
returns-in-Err c = rw c.in-Err.ensures.out.1 (tested_bit_out c.args.source.now (one_where false c.args.refused) c.in-Err.ensures.out.0)
