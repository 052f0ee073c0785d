-- Coefficients that are small everywhere: zeros, and one written after another. The fixtures of tests are such.
use Rattle.std.proofs.Common.{◌≡◌, ℕ, ◌<◌, ◌≤◌, ◌^◌, ℤ, pos, List, [], length, slice_index_or, set, get_or-set_same, get_or-set_other, unsigned_abs, arith, inl, inr, subst, sym, refl}
use Rattle.std.specs.Prelude.{replicate}
use Rattle.std.proofs.lemmas.Bool.{cases_eq, cases_lt}
use Rattle.std.proofs.lemmas.List.{set_past, get_or-replicate, get_or_past, length-replicate}

-- what holds of each item, and of the one that is written, holds of each afterwards
each_set : {A : Type 0} (P : ℕ → A → Type 0) (d : A) (xs : List A) (k : ℕ) (z : A) → P k z → ((j : ℕ) → P j (slice_index_or xs j d)) → (j : ℕ) → P j (slice_index_or (set xs k z) j d)
each_set {A = A} P d xs k z here else j =
    elim (cases_eq j k) [
      | inr other ↦ subst (P j) (sym (get_or-set_other xs k j z d other)) (else j)
      | inl same ↦ elim (cases_lt k (length xs)) [
        | inl room ↦ let Q : ℕ → Type 0 = λ i. P i (slice_index_or (set xs k z) i d) in subst Q (sym same) (subst (P k) (sym (get_or-set_same xs k z d room)) here)
        | inr past ↦ subst (λ (ys : List A). P j (slice_index_or ys j d)) (sym (set_past xs k z past)) (else j)
      ]
    ]

abbrev pub IsSmallAt : ℕ → ℕ → ℤ → Type 0
IsSmallAt b k x = b < 6 → 0 ≤ k → k < 256 → unsigned_abs x < 2 ^ 24

abbrev pub IsSmallRow : ℕ → List ℤ → Type 0
IsSmallRow b row = (k : ℕ) → IsSmallAt b k (slice_index_or row k (pos 0))

abbrev pub AreSmallRows : List (List ℤ) → Type 0
AreSmallRows rows = (b : ℕ) → IsSmallRow b (slice_index_or rows b [])

pub small_put : (coefs : List (List (List ℤ))) (c b k : ℕ) (x : ℤ) → unsigned_abs x < 2 ^ 24 → ((d : ℕ) → AreSmallRows (slice_index_or coefs d []))
    → (d : ℕ) → AreSmallRows (slice_index_or (set coefs c (set (slice_index_or coefs c []) b (set (slice_index_or (slice_index_or coefs c []) b []) k x))) d [])
small_put coefs c b k x small before =
    let rows = slice_index_or coefs c [] in
    let row = slice_index_or rows b [] in
    let new_row : IsSmallRow b (set row k x) = each_set (λ i v. IsSmallAt b i v) (pos 0) row k x (λ p q r. small) (before c b) in
    let new_rows : AreSmallRows (set rows b (set row k x)) = each_set IsSmallRow [] rows b (set row k x) new_row (before c) in
    each_set (λ d rows. AreSmallRows rows) [] coefs c (set rows b (set row k x)) new_rows before

within : {A : Type 0} (n i : ℕ) (a d : A) (P : A → Type 0) → P a → P d → P (slice_index_or (replicate n a) i d)
within n i a d P here past =
    elim (cases_lt i n) [
      | inl l ↦ subst P (sym (get_or-replicate n i a d l)) here
      | inr l ↦ subst P (sym (get_or_past (replicate n a) i d (omega (arith, length-replicate n a)))) past
    ]

zero : (c b k : ℕ) → slice_index_or (slice_index_or (slice_index_or (replicate 7 (replicate 6 (replicate 256 (pos 0)))) c []) b []) k (pos 0) ≡ pos 0
zero c b k =
    let row : List ℤ = replicate 256 (pos 0) in
    let rows : List (List ℤ) = replicate 6 row in
    let P : ℤ → Type 0 = λ x. x ≡ pos 0 in
    let Q : List ℤ → Type 0 = λ xs. slice_index_or xs k (pos 0) ≡ pos 0 in
    let R : List (List ℤ) → Type 0 = λ xs. slice_index_or (slice_index_or xs b []) k (pos 0) ≡ pos 0 in
    within 7 c rows [] R (within 6 b row [] Q (within 256 k (pos 0) (pos 0) P refl refl) refl) refl

pub small_zeros : (coefs : List (List (List ℤ))) → coefs ≡ replicate 7 (replicate 6 (replicate 256 (pos 0))) → (c : ℕ) → AreSmallRows (slice_index_or coefs c [])
small_zeros coefs is c b k p q r =
    let S : List (List (List ℤ)) → Type 0 = λ xs. unsigned_abs (slice_index_or (slice_index_or (slice_index_or xs c []) b []) k (pos 0)) < 2 ^ 24 in
    let P : ℤ → Type 0 = λ x. unsigned_abs x < 2 ^ 24 in
    subst S (sym is) (subst P (sym (zero c b k)) (omega arith))
