use Rattle.std.proofs.Common.{◌≡◌, ◌==◌, None, refl, false, true}
use Rattle.ac_codec.specs.Codec.{zero_where}
use Rattle.ac_codec.proofs.Reading.{tested_bit_ok, tested_bit_refused, tested_bit_out, is_one}
use Rattle.ac_codec.proofs.read.set.Goals as goal

pub returns-in-Ok-eq0 : goal.returns-in-Ok-eq0
returns-in-Ok-eq0 c =
    let e = rw c.in-Ok-eq0.field-0-test at c.in-Ok-eq0.ensures.taken in
    rw c.copy-before.ensures (tested_bit_refused 0 c.args.source.now c.take.new.self (zero_where false c.args.refused) c.args.refused e.0
    e.1 refl)

pub returns-in-Ok : goal.returns-in-Ok
returns-in-Ok c =
    let v = c.in-Ok.field-0 in
    let one : (v == 1) ≡ true = is_one v c.in-Ok.ensures.taken.0 c.in-Ok.field-0-test.1 in
    let lawful : zero_where false c.args.refused (v == 1) ≡ None = rw one refl in
    rw one at (tested_bit_ok v c.args.source.now c.take.new.self (zero_where false c.args.refused) c.in-Ok.ensures.taken.0
    c.in-Ok.ensures.taken.1 lawful)

pub returns-in-Err : goal.returns-in-Err
returns-in-Err c = rw c.in-Err.ensures.out.1 (tested_bit_out c.args.source.now (zero_where false c.args.refused) c.in-Err.ensures.out.0)
