-- Lists of numbers compared with what they list.
use Rattle.std.proofs.Common.{◌≡◌, ℕ, zero, suc, ◌+◌, ◌<◌, Bool, true, false, List, [], ◌∷◌, length, ℤ, pos, negsuc, slice_index_or, refl, arith, ap, sym, ◌∙◌, eqb}
use Rattle.std.specs.Prelude.{◌&&◌}
use Rattle.std.proofs.lemmas.Bool.{eqb-true}
use Rattle.ac_base.specs.Sigma.{Lists}
use Rattle.ac_convolution.specs.Negacyclic.{items}
use Rattle.ac_convolution.specs.Rows.{row, Rows}
use Rattle.ac_convolution.specs.Transform.{table_of}

both : (a b : Bool) → (a && b) ≡ true → (a ≡ true) × (b ≡ true)
both true b h = (refl, h)
both false b h = cc

abbrev pub same : ℤ → ℤ → Bool
same (pos m) (pos n) = eqb m n
same (pos m) (negsuc n) = false
same (negsuc m) (pos n) = false
same (negsuc m) (negsuc n) = eqb m n

same_means : (a b : ℤ) → same a b ≡ true → a ≡ b
same_means (pos m) (pos n) passed = ap pos (eqb-true m n passed)
same_means (pos m) (negsuc n) passed = cc
same_means (negsuc m) (pos n) passed = cc
same_means (negsuc m) (negsuc n) passed = ap negsuc (eqb-true m n passed)

-- the list is f j, f (j + 1) ..
abbrev pub matches : (ℕ → ℤ) → List ℤ → ℕ → Bool
matches f [] j = true
matches f (x ∷ xs) j = same x (f j) && matches f xs (j + 1)

pub matches_at : (f : ℕ → ℤ) (xs : List ℤ) (j : ℕ) → matches f xs j ≡ true → (k : ℕ) → k < length xs → slice_index_or xs k (pos 0) ≡ f (j + k)
matches_at f [] j passed k below = absurd (omega arith)
matches_at f (x ∷ xs) j passed zero below =
    let parts : (same x (f j) ≡ true) × (matches f xs (j + 1) ≡ true) = both _ _ passed in
    same_means x (f j) parts.0 ∙ ap f (omega arith)
matches_at f (x ∷ xs) j passed (suc k) below =
    let parts : (same x (f j) ≡ true) × (matches f xs (j + 1) ≡ true) = both _ _ passed in
    let room : k < length xs = omega arith in
    matches_at f xs (j + 1) parts.1 k room ∙ ap f (omega arith)

pub lists_matched : (n : ℕ) (f : ℕ → ℤ) (xs : List ℤ) → length xs ≡ n → matches f xs 0 ≡ true → Lists n f xs
lists_matched n f xs long passed k below = matches_at f xs 0 passed k (omega arith) ∙ ap f (omega arith)

-- the rows are those of the table of h, from row e on
abbrev pub table_matches : List ℤ → List (List ℤ) → ℕ → Bool
table_matches h [] e = true
table_matches h (r ∷ rs) e = (eqb (length r) 48 && matches (table_of (items h) e) r 0) && table_matches h rs (e + 1)

table_at : (h : List ℤ) (rows : List (List ℤ)) (e : ℕ) → table_matches h rows e ≡ true → (k : ℕ) → k < length rows → Lists 48 (table_of (items h) (e + k)) (row rows k)
table_at h [] e passed k below = absurd (omega arith)
table_at h (r ∷ rs) e passed zero below =
    let parts : ((eqb (length r) 48 && matches (table_of (items h) e) r 0) ≡ true) × (table_matches h rs (e + 1) ≡ true) = both _ _ passed in
    let here : (eqb (length r) 48 ≡ true) × (matches (table_of (items h) e) r 0 ≡ true) = both _ _ parts.0 in
    let same : e + 0 ≡ e = omega arith in
    λ n within. lists_matched 48 (table_of (items h) e) r (eqb-true (length r) 48 here.0) here.1 n within ∙ ap (λ x. table_of (items h) x n) (sym same)
table_at h (r ∷ rs) e passed (suc k) below =
    let parts : ((eqb (length r) 48 && matches (table_of (items h) e) r 0) ≡ true) × (table_matches h rs (e + 1) ≡ true) = both _ _ passed in
    let room : k < length rs = omega arith in
    let same : e + 1 + k ≡ e + suc k = omega arith in
    λ n within. table_at h rs (e + 1) parts.1 k room n within ∙ ap (λ x. table_of (items h) x n) same

pub table_matched : (n : ℕ) (h : List ℤ) (rows : List (List ℤ)) → length rows ≡ n → table_matches h rows 0 ≡ true → Rows n 48 (table_of (items h)) rows
table_matched n h rows long passed e below k within =
    let same : 0 + e ≡ e = omega arith in
    table_at h rows 0 passed e (omega arith) k within ∙ ap (λ x. table_of (items h) x k) same
