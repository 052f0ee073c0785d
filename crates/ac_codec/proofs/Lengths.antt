-- For the room that a writer needs.
use Rattle.std.proofs.Common.{◌≡◌, ℕ, Bool, true, false, cond, List, [], ◌∷◌, length, length-append, refl}
use mir.Val.{bool_byte}
use Rattle.ac_bits.specs.Bits.{bits}
use Rattle.ac_bits.proofs.Laws.{length-bits, appends-then, appends-none}

-- a bit as a number of one bit
pub flag_bits : (b : Bool) → bits (bool_byte b) 1 ≡ b ∷ []
unfolding bits
flag_bits true = refl
flag_bits false = refl

pub ruleset writing = (length-append, length-bits, flag_bits, appends-then, appends-none)
