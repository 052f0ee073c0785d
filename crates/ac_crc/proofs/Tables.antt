-- Remainders found by the checker.
use Rattle.std.proofs.Common.{◌≡◌, ℕ, zero, suc, ◌<◌, ◌^◌, Bool, true, false, List, [], ◌∷◌, ◌++◌, length, refl, ap, sym, subst, arith, get_or, inl, inr}
use Rattle.std.specs.Prelude.{◌&&◌, nat_lt}
use Rattle.std.proofs.lemmas.Bool.{cases_eq, ltb-true}
use Rattle.ac_bits.specs.Bits.{bits}
use Rattle.ac_crc.specs.Remainder.{add, zeros, copies, IsRemainder}
use Rattle.ac_crc.proofs.Carryless.{lower}

-- n picks for which the sum begins as the list does
abbrev picks : ℕ → List Bool → List Bool
picks zero w = []
picks (suc n) [] = []
picks (suc n) (true ∷ w) = true ∷ picks n (add lower w)
picks (suc n) (false ∷ w) = false ∷ picks n w

abbrev same_bits : List Bool → List Bool → Bool
same_bits [] [] = true
same_bits [] (y ∷ b) = false
same_bits (x ∷ a) [] = false
same_bits (true ∷ a) (true ∷ b) = same_bits a b
same_bits (false ∷ a) (false ∷ b) = same_bits a b
same_bits (true ∷ a) (false ∷ b) = false
same_bits (false ∷ a) (true ∷ b) = false

same_list : (a b : List Bool) → same_bits a b ≡ true → a ≡ b
same_list [] [] e = refl
same_list [] (y ∷ b) e = cc
same_list (x ∷ a) [] e = cc
same_list (true ∷ a) (true ∷ b) e = ap (λ l. true ∷ l) (same_list a b e)
same_list (false ∷ a) (false ∷ b) e = ap (λ l. false ∷ l) (same_list a b e)
same_list (true ∷ a) (false ∷ b) e = cc
same_list (false ∷ a) (true ∷ b) e = cc

both : (a b : Bool) → (a && b) ≡ true → (a ≡ true) × (b ≡ true)
both true b h = (refl, h)
both false b h = cc

-- the test passes at each number below n
abbrev all_below : ℕ → (ℕ → Bool) → Bool
all_below zero p = true
all_below (suc n) p = all_below n p && p n

all_below-at : (n : ℕ) (p : ℕ → Bool) → all_below n p ≡ true → (i : ℕ) → i < n → p i ≡ true
all_below-at zero p all i below = absurd (omega arith)
all_below-at (suc n) p all i below =
    let parts = both (all_below n p) (p n) all in
    elim (cases_eq i n) [
      | inl last ↦ let P : ℕ → Type 0 = λ k. p k ≡ true in subst P (sym last) parts.1
      | inr other ↦ all_below-at n p parts.0 i (omega arith)
    ]

-- whether r is the remainder
unfoldable pub is_remainder : List Bool → ℕ → Bool
is_remainder l r = nat_lt r (2 ^ 16) && same_bits (copies (picks (length l) (l ++ zeros 16))) (l ++ bits r 16)

found : (l : List Bool) (r : ℕ) → is_remainder l r ≡ true → IsRemainder l r
unfolding is_remainder
found l r e =
    let parts = both (nat_lt r (2 ^ 16)) (same_bits (copies (picks (length l) (l ++ zeros 16))) (l ++ bits r 16)) e in
    record { fits = ltb-true r (2 ^ 16) parts.0; picked = picks (length l) (l ++ zeros 16); sum = same_list _ _ parts.1 }

-- whether a table has the remainder of each byte, of each byte and n zeros, and the word in front of each byte
unfoldable pub has_remainders : List ℕ → Bool
has_remainders t = all_below 256 (λ i. is_remainder (bits i 8) (get_or t i 0))

unfoldable pub has_ahead : ℕ → List ℕ → Bool
has_ahead n t = all_below 256 (λ i. is_remainder (bits i 8 ++ zeros n) (get_or t i 0))

unfoldable pub has_leading : List ℕ → Bool
has_leading t = all_below 256 (λ i. is_remainder (bits (get_or t i 0) 16 ++ bits i 8) 0)

pub remainder_at : (t : List ℕ) → has_remainders t ≡ true → (i : ℕ) → i < 256 → IsRemainder (bits i 8) (get_or t i 0)
unfolding has_remainders
remainder_at t e i h = found (bits i 8) (get_or t i 0) (all_below-at 256 (λ k. is_remainder (bits k 8) (get_or t k 0)) e i h)

pub ahead_at : (n : ℕ) (t : List ℕ) → has_ahead n t ≡ true → (i : ℕ) → i < 256 → IsRemainder (bits i 8 ++ zeros n) (get_or t i 0)
unfolding has_ahead
ahead_at n t e i h = found (bits i 8 ++ zeros n) (get_or t i 0) (all_below-at 256 (λ k. is_remainder (bits k 8 ++ zeros n) (get_or t k 0)) e i h)

pub leading_at : (t : List ℕ) → has_leading t ≡ true → (i : ℕ) → i < 256 → IsRemainder (bits (get_or t i 0) 16 ++ bits i 8) 0
unfolding has_leading
leading_at t e i h = found (bits (get_or t i 0) 16 ++ bits i 8) 0 (all_below-at 256 (λ k. is_remainder (bits (get_or t k 0) 16 ++ bits k 8) 0) e i h)
