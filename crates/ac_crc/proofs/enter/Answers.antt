use Rattle.std.proofs.Common.{◌≡◌, ◌*◌, ◌%◌, ◌^◌, ◌++◌, ℕ, subst, arith}
use Rattle.std.specs.Prelude.{bit_xor}
use Rattle.ac_bits.specs.Bits.{bits}
use Rattle.ac_crc.specs.Remainder.{IsRemainder}
use Rattle.ac_crc.proofs.Remainders.{enters}
use Rattle.ac_crc.proofs.enter.Goals as goal

pub returns : goal.returns
returns c = λ l a.
    let r = c.args.register in
    let whole : r % 2 ^ 8 * 2 ^ 8 ≡ (r % 2 ^ 8 * 2 ^ 8) % 2 ^ 16 = omega arith in
    subst (λ (n : ℕ). IsRemainder (l ++ bits c.args.byte 8) (bit_xor n c.remainder_of.result)) whole (enters l r c.args.byte c.remainder_of.result a c.remainder_of.ensures)
