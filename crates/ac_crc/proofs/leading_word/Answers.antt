use Rattle.std.proofs.Common.{◌≡◌, ◌<◌, ◌+◌, ◌-◌, ◌++◌, ℕ, List, Bool, length, subst, ap, arith, drop}
use Rattle.ac_bits.specs.Bits.{bits, bits_of}
use Rattle.ac_crc.specs.Remainder.{IsRemainder}
use Rattle.ac_crc.proofs.Remainders.{starts_front, bits_of-before, one_leading}
use Rattle.ac_crc.proofs.leading_word.Goals as goal

pub loop-at-init : goal.loop-at-init
loop-at-init c = (omega arith, omega arith, starts_front c.args.bytes.now)

pub loop-at-preserved : goal.loop-at-preserved
loop-at-preserved c =
    let i = c.loop-at.at - 1 in
    let bytes = c.args.bytes.now in
    let room : i < length bytes = omega arith in
    let one : c.loop-at.at ≡ i + 1 = omega arith in
    let before = subst (λ (k : ℕ). IsRemainder (bits c.loop-at.word 16 ++ bits_of (drop k bytes)) 0) one c.loop-at.invariant.2 in
    let more : bits c.enter_front-word.result 16 ++ _ ≡ _ = ap (λ x. bits c.enter_front-word.result 16 ++ x) (bits_of-before bytes i room) in
    (omega arith, c.enter_front-word.type_inv, subst (λ (x : List Bool). IsRemainder x 0) more (c.enter_front-word.ensures (bits_of (drop (i + 1) bytes)) before))

pub returns-clause-only : goal.returns-clause-only
returns-clause-only c = λ u h b.
    let none : c.loop-at.at ≡ 0 = omega arith in
    let whole = subst (λ (k : ℕ). IsRemainder (bits c.loop-at.word 16 ++ bits_of (drop k c.args.bytes.now)) 0) none c.loop-at.invariant.2 in
    one_leading (bits_of c.args.bytes.now) u c.loop-at.word h c.loop-at.invariant.1 b whole
