use Rattle.std.proofs.Common.{arith, ◌*◌, List, Bool, subst, sym}
use Rattle.ac_crc.specs.Remainder.{IsRemainder}
use Rattle.ac_reading.proofs.Steps.{front_bits, all_bits, no_rest}
use Rattle.ac_reading.proofs.framing.crc.Goals as goal

pub returns-then-first-ne0-clause-cause : goal.returns-then-first-ne0-clause-cause
returns-then-first-ne0-clause-cause c =
    let e = front_bits c.args.frame.now c.args.words (2 * c.from-front.result) (omega (arith, c.from-front.ensures, c.front_words.ensures.value)) (omega (arith, c.from-front.ensures, c.front_words.ensures.bound, c.requires.long)) (omega (arith, c.from-front.ensures, c.front_words.ensures.value, c.requires.least)) in
    (subst (λ (l : List Bool). IsRemainder l c.remainder-first.result) (sym e) c.remainder-first.ensures.is_remainder, c.if-first-ne0.true)

pub returns-then-second-ne0-clause-cause : goal.returns-then-second-ne0-clause-cause
returns-then-second-ne0-clause-cause c =
    let e = front_bits c.args.frame.now c.args.words (2 * c.from-front.result) (omega (arith, c.from-front.ensures, c.front_words.ensures.value)) (omega (arith, c.from-front.ensures, c.front_words.ensures.bound, c.requires.long)) (omega (arith, c.from-front.ensures, c.front_words.ensures.value, c.requires.least)) in
    let a = all_bits c.args.frame.now (omega (arith, c.requires.long, c.requires.least)) in
    let first = subst (λ (l : List Bool). IsRemainder l c.remainder-first.result) (sym e) c.remainder-first.ensures.is_remainder in
    (no_rest _ c.remainder-first.result c.if-first-ne0.false first, subst (λ (l : List Bool). IsRemainder l c.remainder-second.result) (sym a) c.remainder-second.ensures.is_remainder, c.if-second-ne0.true)

pub returns-clause-value : goal.returns-clause-value
returns-clause-value c =
    let e = front_bits c.args.frame.now c.args.words (2 * c.from-front.result) (omega (arith, c.from-front.ensures, c.front_words.ensures.value)) (omega (arith, c.from-front.ensures, c.front_words.ensures.bound, c.requires.long)) (omega (arith, c.from-front.ensures, c.front_words.ensures.value, c.requires.least)) in
    let a = all_bits c.args.frame.now (omega (arith, c.requires.long, c.requires.least)) in
    let first = subst (λ (l : List Bool). IsRemainder l c.remainder-first.result) (sym e) c.remainder-first.ensures.is_remainder in
    let second = subst (λ (l : List Bool). IsRemainder l c.remainder-second.result) (sym a) c.remainder-second.ensures.is_remainder in
    record {
      front = no_rest _ c.remainder-first.result c.if-first-ne0.false first;
      all = no_rest _ c.remainder-second.result c.if-second-ne0.false second;
    }
