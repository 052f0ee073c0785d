use Rattle.std.proofs.Common.{◌<◌, ◌≤◌, ◌+◌, List, Bool, length, subst, arith, take}
use Rattle.ac_bits.specs.Bits.{bits_of}
use Rattle.ac_crc.specs.Remainder.{IsRemainder}
use Rattle.ac_crc.proofs.Remainders.{starts, whole_list, one_remainder, bits_of-more, bits_of-four}
use Rattle.ac_crc.proofs.remainder.Goals as goal

pub fours-init : goal.fours-init
fours-init c = (omega arith, starts)

pub fours-preserved : goal.fours-preserved
fours-preserved c =
    let l = c.fours in
    let bytes = c.args.bytes.now in
    let room : l.at + 4 ≤ length bytes = omega arith in
    (room, subst (λ (x : List Bool). IsRemainder x c.enter_four-register.result) (bits_of-four bytes l.at room) (c.enter_four-register.ensures (bits_of (take l.at bytes)) l.invariant.1))

pub ones-preserved : goal.ones-preserved
ones-preserved c =
    let l = c.ones in
    let bytes = c.args.bytes.now in
    let room : l.at < length bytes = omega arith in
    (omega arith, subst (λ (x : List Bool). IsRemainder x c.enter-register.result) (bits_of-more bytes l.at room) (c.enter-register.ensures (bits_of (take l.at bytes)) l.invariant.1))

pub returns-clause-is_remainder : goal.returns-clause-is_remainder
returns-clause-is_remainder c = whole_list c.args.bytes.now c.ones.at c.ones.register (omega arith) c.ones.invariant.1

pub returns-clause-only : goal.returns-clause-only
returns-clause-only c = λ r a. one_remainder (bits_of c.args.bytes.now) r c.ones.register a (returns-clause-is_remainder c)
