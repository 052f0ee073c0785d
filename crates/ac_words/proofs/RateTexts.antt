-- The text of a rate.
use Rattle.std.proofs.Common.{◌≡◌, ◌∙◌, ◌||◌, ◌&&◌, ◌==◌, ◌<◌, ◌≤◌, ◌^◌, ℕ, Bool, true, false, refl, sym, arith, List, [], ◌∷◌, Option, Some, None, true≢false, subst}
use Rattle.std.specs.Prelude.{IsTrue, MatchOption, nat_le}
use Rattle.std.specs.List.{list_any, list_all}
use Rattle.std.specs.Fmt.{decimal}
use Rattle.std.proofs.lemmas.Bool.Decides.{nat_tests}
use Rattle.ac_words.specs.Grammar.{RateOf, Text}
use Rattle.ac_base.specs.Rates.{is_rate, rates}
use Rattle.ac_words.proofs.Numbers.{same_number}

pub both : (a b : Bool) → (a && b) ≡ true → (a ≡ true) × (b ≡ true)
both true b e = (refl, e)
both false b e = absurd (true≢false (sym e))

below_most : (most : ℕ) (xs : List ℕ) (r : ℕ) → list_all (λ q. nat_le q most) xs ≡ true → list_any (λ q. q == r) xs ≡ true → r ≤ most
below_most most [] r all some = absurd (true≢false (sym some))
below_most most (x ∷ xs) r all some = go (x == r) refl some (below_most most xs r parts.1)
  where
    parts : (nat_le x most ≡ true) × (list_all (λ q. nat_le q most) xs ≡ true)
    parts = both (nat_le x most) (list_all (λ q. nat_le q most) xs) all

    go : (t : Bool) → (x == r) ≡ t → (t || list_any (λ q. q == r) xs) ≡ true → (list_any (λ q. q == r) xs ≡ true → r ≤ most) → r ≤ most
    go true e h more = let fits : nat_le x most ≡ true = parts.0 in grind (arith, nat_tests)
    go false e h more = more h

pub rate_below : (r : ℕ) → IsTrue (is_rate r) → r ≤ 640
unfolding is_rate
rate_below r h = below_most 640 rates r refl h

pub rate_fits : (r : ℕ) → IsTrue (is_rate r) → r < 2 ^ 64
rate_fits r h = let low : r ≤ 640 = rate_below r h in omega arith

-- the rate that a number is, from its text
pub rate_written : (text : Text) (n : ℕ) → n < 2 ^ 64 → text ≡ decimal n → (r : Option ℕ) → MatchOption r (IsTrue (is_rate n) → ⊥) (λ rate. (rate ≡ n) × IsTrue (is_rate n))
    → MatchOption r ((rate : ℕ) → RateOf (Some text) rate → ⊥) (RateOf (Some text))
rate_written text n fits is None none = λ rate h.
    let same : rate ≡ n = same_number text rate n (rate_fits rate h.1) fits h.0 is in
    none (subst (λ (x : ℕ). IsTrue (is_rate x)) same h.1)
rate_written text n fits is (Some rate) h =
    (is ∙ sym (subst (λ (x : ℕ). decimal rate ≡ decimal x) h.0 refl), subst (λ (x : ℕ). IsTrue (is_rate x)) (sym h.0) h.1)
