-- The bits of a front of bytes, and of what stands behind it.
use Rattle.std.proofs.Common.{◌≡◌, ℕ, zero, suc, ◌+◌, ◌*◌, Bool, List, [], ◌∷◌, ◌++◌, length, take, drop, refl, ap, sym, ◌∙◌, arith}
use Rattle.std.proofs.Math.Seq.{take-append-add, drop-append-add}
use Rattle.ac_bits.specs.Bits.{bits, bits_of}
use Rattle.ac_bits.proofs.Laws.{length-bits}

take_none : (n : ℕ) → take {A = Bool} n [] ≡ []
take_none zero = refl
take_none (suc n) = refl

drop_none : (n : ℕ) → drop {A = Bool} n [] ≡ []
drop_none zero = refl
drop_none (suc n) = refl

pub bits_of-take : (k : ℕ) (l : List ℕ) → bits_of (take k l) ≡ take (8 * k) (bits_of l)
bits_of-take zero l = refl
bits_of-take (suc k) [] = sym (take_none (8 * suc k))
bits_of-take (suc k) (b ∷ l) =
    let n : 8 * suc k ≡ length (bits b 8) + 8 * k = omega (arith, length-bits b 8) in
    ap (λ x. bits b 8 ++ x) (bits_of-take k l)
    ∙ (sym (take-append-add (bits b 8) (bits_of l) (8 * k)) ∙ ap (λ m. take m (bits b 8 ++ bits_of l)) (sym n))

pub bits_of-drop : (k : ℕ) (l : List ℕ) → bits_of (drop k l) ≡ drop (8 * k) (bits_of l)
bits_of-drop zero l = refl
bits_of-drop (suc k) [] = sym (drop_none (8 * suc k))
bits_of-drop (suc k) (b ∷ l) =
    let n : 8 * suc k ≡ length (bits b 8) + 8 * k = omega (arith, length-bits b 8) in
    bits_of-drop k l
    ∙ (sym (drop-append-add (bits b 8) (bits_of l) (8 * k)) ∙ ap (λ m. drop m (bits b 8 ++ bits_of l)) (sym n))
