-- A list of numbers is tested against the recurrence in one walk.
use Rattle.std.proofs.Common.{◌≡◌, ℕ, zero, suc, ◌+◌, ◌-◌, ◌*◌, ◌/◌, ◌^◌, ◌<◌, min, Bool, true, false, List, [], ◌∷◌, length, ℤ, pos, negsuc, slice_index_or, refl, arith, ap, sym, ◌∙◌, subst, eqb, inl, inr}
use Rattle.std.specs.Prelude.{◌&&◌}
use Rattle.std.proofs.lemmas.Bool.{eqb-true, cases_lt}
use Rattle.std.proofs.lemmas.Bool.Decides.{nat_tests}
use Rattle.ac_base.specs.Quarter.{pair_at, cosine_of, angle}
use Rattle.ac_base.specs.Cosine.{quarter_of, IsQuarter}
use Rattle.ac_base.proofs.Rules.{Holds, cosine_is, pair_more, pair_next, pair_zero, pair_one}
use Rattle.ac_base.proofs.Waves.{quarter_last}

both : (a b : Bool) → (a && b) ≡ true → (a ≡ true) × (b ≡ true)
both true b h = (refl, h)
both false b h = cc

abbrev is_pos : ℤ → ℕ → Bool
is_pos (pos n) m = eqb n m
is_pos (negsuc n) m = false

-- each entry is the rounded first part of its pair, and the next pair follows
abbrev pub walks : ℕ → List ℤ → ℕ → ℕ → Bool
walks step [] before now = true
walks step (x ∷ xs) before now = is_pos x ((before + 2 ^ 29) / 2 ^ 30) && walks step xs now (min (2 * step * now / 2 ^ 60 - before) (2 ^ 60))

is_pos_means : (z : ℤ) (m : ℕ) → is_pos z m ≡ true → z ≡ pos m
is_pos_means (pos n) m passed = ap pos (eqb-true n m passed)
is_pos_means (negsuc n) m passed = cc

pub walk_at : (xs : List ℤ) (j : ℕ) → walks angle xs (pair_at j).0 (pair_at j).1 ≡ true → (k : ℕ) → k < length xs → slice_index_or xs k (pos 0) ≡ pos (cosine_of (j + k))
walk_at [] j passed k below = absurd (omega arith)
walk_at (x ∷ xs) j passed zero below =
    let parts : (is_pos x (((pair_at j).0 + 2 ^ 29) / 2 ^ 30) ≡ true) × (walks angle xs (pair_at j).1 (min (2 * angle * (pair_at j).1 / 2 ^ 60 - (pair_at j).0) (2 ^ 60)) ≡ true) = both _ _ passed in
    let here = is_pos_means x _ parts.0 in
    here ∙ ap pos (sym (cosine_is j)) ∙ ap (λ n. pos (cosine_of n)) (omega arith)
walk_at (x ∷ xs) j passed (suc k) below =
    let parts : (is_pos x (((pair_at j).0 + 2 ^ 29) / 2 ^ 30) ≡ true) × (walks angle xs (pair_at j).1 (min (2 * angle * (pair_at j).1 / 2 ^ 60 - (pair_at j).0) (2 ^ 60)) ≡ true) = both _ _ passed in
    let place : j + 1 + k ≡ j + suc k = omega arith in
    let room : k < length xs = omega arith in
    let rest : walks angle xs (pair_at (j + 1)).0 (pair_at (j + 1)).1 ≡ true = rw (pair_more j, pair_next j) parts.1 in
    walk_at xs (j + 1) rest k room ∙ ap (λ n. pos (cosine_of n)) place

pub quarter_low : (j : ℕ) → j < 512 → quarter_of j ≡ cosine_of j
unfolding quarter_of
quarter_low j low = grind (arith, nat_tests)

-- a list of 513 numbers that passes the walk and ends in 0
pub quarter_walked : (xs : List ℤ) → length xs ≡ 513 → walks angle xs (2 ^ 60) angle ≡ true → slice_index_or xs 512 (pos 0) ≡ pos 0 → IsQuarter xs
quarter_walked xs long passed last j within =
    elim (cases_lt j 512) [
      | inl low ↦
          let first : walks angle xs (pair_at 0).0 (pair_at 0).1 ≡ true = rw (pair_zero, pair_one) passed in
          walk_at xs 0 first j (omega arith) ∙ ap (λ n. pos (cosine_of n)) (omega arith) ∙ ap pos (sym (quarter_low j low))
      | inr high ↦
          let is_last : j ≡ 512 = omega arith in
          let P : ℕ → Type 0 = λ n. slice_index_or xs n (pos 0) ≡ pos (quarter_of n) in
          subst P (sym is_last) (last ∙ ap pos (sym quarter_last))
    ]

pub quarter_held : (xs : List ℤ) → Holds 512 xs → slice_index_or xs 512 (pos 0) ≡ pos 0 → IsQuarter xs
quarter_held xs first last j within =
    elim (cases_lt j 512) [
      | inl low ↦ first j low ∙ ap pos (sym (quarter_low j low))
      | inr high ↦
          let is_last : j ≡ 512 = omega arith in
          let P : ℕ → Type 0 = λ n. slice_index_or xs n (pos 0) ≡ pos (quarter_of n) in
          subst P (sym is_last) (last ∙ ap pos (sym quarter_last))
    ]
