-- What holds of each bit rate.
use Rattle.std.proofs.Common.{◌≡◌, ◌⊎◌, ℕ, zero, suc, ◌≤◌, ◌<◌, Bool, true, false, List, [], ◌∷◌, length, slice_index, refl, arith, inl, inr}
use Rattle.std.specs.Prelude.{◌==◌, ◌||◌, ◌&&◌, nat_le}
use Rattle.std.specs.List.{list_any, list_all}
use Rattle.std.proofs.lemmas.Bool.{eqb-true, leb-true}
use Rattle.ac_base.specs.Rates.{rates, is_rate, IsRate}

one_of : (a b : Bool) → (a || b) ≡ true → (a ≡ true) ⊎ (b ≡ true)
one_of true b e = inl refl
one_of false b e = inr e

both_of : (a b : Bool) → (a && b) ≡ true → (a ≡ true) × (b ≡ true)
both_of true b e = (refl, e)
both_of false b e = absurd cc

any_most : (m rate : ℕ) (xs : List ℕ) → list_all (λ x. nat_le x m) xs ≡ true → list_any (λ x. x == rate) xs ≡ true → rate ≤ m
any_most m rate [] all any = absurd cc
any_most m rate (x ∷ xs) all any =
    let a = both_of (nat_le x m) (list_all (λ y. nat_le y m) xs) all in
    elim (one_of (x == rate) (list_any (λ y. y == rate) xs) any) [
      | inl h ↦ let e = eqb-true x rate h in let l = leb-true x m a.0 in omega (arith, e, l)
      | inr h ↦ any_most m rate xs a.1 h
    ]

any_least : (m rate : ℕ) (xs : List ℕ) → list_all (λ x. nat_le m x) xs ≡ true → list_any (λ x. x == rate) xs ≡ true → m ≤ rate
any_least m rate [] all any = absurd cc
any_least m rate (x ∷ xs) all any =
    let a = both_of (nat_le m x) (list_all (λ y. nat_le m y) xs) all in
    elim (one_of (x == rate) (list_any (λ y. y == rate) xs) any) [
      | inl h ↦ let e = eqb-true x rate h in let l = leb-true m x a.0 in omega (arith, e, l)
      | inr h ↦ any_least m rate xs a.1 h
    ]

pub rate_most : (rate : ℕ) → IsRate rate → rate ≤ 640
unfolding is_rate
rate_most rate is = any_most 640 rate rates refl is

pub rate_least : (rate : ℕ) → IsRate rate → 32 ≤ rate
unfolding is_rate
rate_least rate is = any_least 32 rate rates refl is

any_at : (rate : ℕ) (xs : List ℕ) → list_any (λ x. x == rate) xs ≡ true → (k : ℕ) × (k < length xs) × (slice_index xs k ≡ rate)
any_at rate [] any = absurd cc
any_at rate (x ∷ xs) any =
    elim (one_of (x == rate) (list_any (λ y. y == rate) xs) any) [
      | inl h ↦ (zero, omega arith, eqb-true x rate h)
      | inr h ↦ let at = any_at rate xs h in (suc at.0, omega (arith, at.1), at.2)
    ]

pub rate_at : (rate : ℕ) → IsRate rate → (k : ℕ) × (k < 19) × (slice_index rates k ≡ rate)
unfolding is_rate
rate_at rate is = any_at rate rates is
