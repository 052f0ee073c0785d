use Rattle.std.proofs.Common.{◌∙◌, arith}
use Rattle.ac_rows.proofs.SpelledSound.{read_lawful, spelled_out, spelled_ok, spelled_bad}
use Rattle.ac_row_reading.proofs.exponent.read_spelled.Goals as goal

pub returns-then-left-from : goal.returns-then-left-from
returns-then-left-from c =
    spelled_out c.args.kind c.args.span.now c.args.channel c.args.source.now
    (omega (arith, c.if-left-from.true, c.left.ensures, c.from.ensures, c.groups-count.ensures.value))

pub whole_spelled-spelled-requires-clause-enough : goal.whole_spelled-spelled-requires-clause-enough
whole_spelled-spelled-requires-clause-enough c = omega (arith, c.if-left-from.false, c.left.ensures, c.from.ensures)

pub check-requires-clause-count : goal.check-requires-clause-count
check-requires-clause-count c =
    (read_lawful c.groups-count.result c.args.source.now c.whole_spelled-spelled.new.source c.whole_spelled-spelled.result
    c.whole_spelled-spelled.ensures).1 ∙ c.groups-count.ensures.value

pub check-requires-clause-first : goal.check-requires-clause-first
check-requires-clause-first c =
    let r =
    read_lawful c.groups-count.result c.args.source.now c.whole_spelled-spelled.new.source c.whole_spelled-spelled.result
    c.whole_spelled-spelled.ensures in
    omega (arith, r.0)

pub returns-in-Ok : goal.returns-in-Ok
returns-in-Ok c =
    let s = c.whole_spelled-spelled in
    let read = rw c.groups-count.ensures.value at s.ensures in
    spelled_ok c.args.kind c.args.span.now c.args.channel c.args.source.now s.new.source s.result
    (omega (arith, c.if-left-from.false, c.left.ensures, c.from.ensures, c.groups-count.ensures.value)) read c.in-Ok.ensures.cause

pub returns-in-Err : goal.returns-in-Err
returns-in-Err c =
    let s = c.whole_spelled-spelled in
    let read = rw c.groups-count.ensures.value at s.ensures in
    rw c.copy-before.ensures (spelled_bad c.args.kind c.args.span.now c.args.channel c.args.source.now s.new.source s.result
    c.in-Err.bad.place (omega (arith, c.if-left-from.false, c.left.ensures, c.from.ensures, c.groups-count.ensures.value)) read
    c.in-Err.ensures.cause)
