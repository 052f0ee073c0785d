-- The codes of a pointer among mantissas.
use Rattle.std.proofs.Common.{◌≡◌, ℕ, zero, suc, ◌<◌, List, [], ◌∷◌, ◌++◌, slice_index, Option, Some, None, arith, refl, inl, inr, subst, sym}
use Rattle.std.proofs.lemmas.Bool.{cases_eq}
use Rattle.std.proofs.lemmas.Bool.Decides.{nat_tests}
use Rattle.ac_mant.specs.Quantiser.{levels, code_limit}
use Rattle.ac_mant.specs.Groups.{AreCoded, coming}
use Rattle.ac_mant.specs.declared.coded.Coded.{Coded}

-- what was seen so far
abbrev pub seen : Option ℕ → List ℕ
seen None = []
seen (Some code) = code ∷ []

-- each item of a list is below a limit
abbrev pub AllBelow : ℕ → List ℕ → Type 0
AllBelow limit [] = 0 < limit
AllBelow limit (x ∷ xs) = (x < limit) × AllBelow limit xs

pub item_below : (limit : ℕ) (xs : List ℕ) (k : ℕ) → AllBelow limit xs → slice_index xs k < limit
item_below limit [] k all = all
item_below limit (x ∷ xs) zero all = all.0
item_below limit (x ∷ xs) (suc k) all = item_below limit xs k all.1

-- the codes of a pointer are below its limit, with others behind them that are
pub all_coming : (bap : ℕ) (xs : List Coded) (fill : List ℕ) → AreCoded xs → AllBelow (code_limit bap) fill → AllBelow (code_limit bap) (coming bap xs ++ fill)
all_coming bap [] fill coded all = all
all_coming bap (x ∷ xs) fill coded all =
    let rest = all_coming bap xs fill coded.1 all in
    elim (cases_eq x.bap bap) [
      | inl same ↦ let code : x.code < code_limit bap = subst (λ (b : ℕ). x.code < code_limit b) same coded.0.code in grind (arith, nat_tests)
      | inr other ↦ grind (arith, nat_tests)
    ]

pub limit_of_1 : (bap : ℕ) → bap ≡ 1 → code_limit bap ≡ 3
unfolding levels
limit_of_1 bap is = rw is refl

pub limit_of_2 : (bap : ℕ) → bap ≡ 2 → code_limit bap ≡ 5
unfolding levels
limit_of_2 bap is = rw is refl

pub limit_of_4 : (bap : ℕ) → bap ≡ 4 → code_limit bap ≡ 11
unfolding levels
limit_of_4 bap is = rw is refl

-- a code of the pointer among mantissas, or 0, is below the pointer's limit
pub coming_below : (bap limit : ℕ) (xs : List Coded) (fill : List ℕ) (k : ℕ) → code_limit bap ≡ limit → AreCoded xs → AllBelow limit fill → slice_index (coming bap xs ++ fill) k < limit
coming_below bap limit xs fill k is coded all =
    subst (λ (m : ℕ). slice_index (coming bap xs ++ fill) k < m) is
    (item_below (code_limit bap) (coming bap xs ++ fill) k (all_coming bap xs fill coded (subst (λ (m : ℕ). AllBelow m fill) (sym is) all)))
