use Rattle.std.proofs.Common.{refl}
use Rattle.ac_rows.proofs.HeadSound.{head_channels}
use Rattle.ac_record.specs.Held.{exponent_by, exponent_in, held_exponents}
use Rattle.ac_reading.proofs.Keeping.{exponents_small, row_stays}
use Rattle.ac_reading.proofs.Rows.{row_same}
use Rattle.ac_reading.proofs.Rooms.{exponent_same, spells_held}
use Rattle.ac_reading.proofs.exponents.exponent_row.Goals as goal

pub stays-requires-clause-modes : goal.stays-requires-clause-modes
stays-requires-clause-modes c = head_channels c.args.head.now c.requires.head

pub held-requires-clause-channels : goal.held-requires-clause-channels
held-requires-clause-channels c = head_channels c.args.head.now c.requires.head

pub row_by-requires : goal.row_by-requires
row_by-requires c =
    spells_held c.args.head.now c.args.earlier.now c.args.block.now c.args.filled.now c.args.c c.args.span.now c.held.result c.requires.head c.requires.earlier c.requires.block c.requires.filled c.requires.span c.held.ensures c.requires.coded

pub returns-else-stays-clause-value : goal.returns-else-stays-clause-value
returns-else-stays-clause-value c =
    row_same c.args.span.now (exponent_by c.args.span.now c.held.result) (exponent_in c.args.head.now c.args.earlier.now c.args.block.now c.args.c) c.row_by.result
    (λ k i. exponent_same c.args.head.now c.args.earlier.now c.args.block.now c.args.filled.now c.args.c c.args.span.now c.held.result c.requires.filled c.requires.span c.held.ensures k) c.row_by.ensures.value

pub returns-then-stays-clause-value : goal.returns-then-stays-clause-value
returns-then-stays-clause-value c =
    let h = c.args.head.now in
    let e = c.args.earlier.now in
    let x = c.args.block.now in
    let f = c.args.filled.now in
    let s = c.args.span.now in
    let has = c.stays.ensures c.if-stays.true in
    row_same s (exponent_by s (held_exponents h e x c.args.c)) (exponent_in h e x c.args.c) c.args.before.now
    (λ k i. exponent_same h e x f c.args.c s (held_exponents h e x c.args.c) c.requires.filled c.requires.span refl k)
    (row_stays h e x f s c.args.kept.now c.args.c c.args.before.now c.requires.filled c.requires.span has (c.requires.before has.there))

pub returns-then-stays-clause-bound : goal.returns-then-stays-clause-bound
returns-then-stays-clause-bound c =
    let h = c.args.head.now in
    let e = c.args.earlier.now in
    let x = c.args.block.now in
    let f = c.args.filled.now in
    let s = c.args.span.now in
    let has = c.stays.ensures c.if-stays.true in
    exponents_small s (held_exponents h e x c.args.c) c.args.before.now (spells_held h e x f c.args.c s (held_exponents h e x c.args.c) c.requires.head c.requires.earlier c.requires.block c.requires.filled c.requires.span refl c.requires.coded)
    (row_stays h e x f s c.args.kept.now c.args.c c.args.before.now c.requires.filled c.requires.span has (c.requires.before has.there))
