use Rattle.std.proofs.Common.{◌≡◌, ◌+◌, Some, None, arith}
use Rattle.std.proofs.lemmas.Bool.{le-ltb, lt-ltb}
use Rattle.ac_codec.specs.declared.refused.Refused.TheVariants.{Reserved}
use Rattle.ac_codec.specs.declared.refused.Row.TheVariants.{Cplendf}
use Rattle.ac_rows.specs.BlockRows.{no_less}
use Rattle.ac_codec.proofs.Reading.{field_ok, field_refused, field_out}
use Rattle.ac_row_reading.proofs.strategy.read_last.Goals as goal

pub returns-in-Ok : goal.returns-in-Ok
returns-in-Ok c =
    let lawful : no_less c.args.cplbegf c.in-Ok.v ≡ None =
    rw (le-ltb (c.in-Ok.v + 2) c.args.cplbegf (omega (arith, c.if-v-from.true, c.from.ensures))) in
    field_ok 4 c.in-Ok.v c.args.source.now c.take.new.self (no_less c.args.cplbegf) c.in-Ok.ensures.taken.0 c.in-Ok.ensures.taken.1 lawful

pub returns-in-Ok-2 : goal.returns-in-Ok-2
returns-in-Ok-2 c =
    let refused : no_less c.args.cplbegf c.in-Ok.v ≡ Some (Reserved Cplendf) =
    rw (lt-ltb (c.in-Ok.v + 2) c.args.cplbegf (omega (arith, c.if-v-from.false, c.from.ensures))) in
    rw c.copy-before.ensures (field_refused 4 c.in-Ok.v c.args.source.now c.take.new.self (no_less c.args.cplbegf) (Reserved Cplendf)
    c.in-Ok.ensures.taken.0 c.in-Ok.ensures.taken.1 refused)

pub returns-in-Err : goal.returns-in-Err
returns-in-Err c = rw c.in-Err.ensures.out.1 (field_out 4 c.args.source.now (no_less c.args.cplbegf) c.in-Err.ensures.out.0)
