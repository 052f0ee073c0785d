-- A list with one item written.
use Rattle.std.proofs.Common.{◌≢◌, ℕ, ◌<◌, List, length, get_or, set, get_or-set_same, get_or-set_other, subst, sym, inl, inr}
use Rattle.std.proofs.lemmas.Bool.{cases_eq}

-- what holds of the other items, and of the new one, holds of each
pub with_written : {A : Type 0} → (P : ℕ → A → Type 0) (d : A) (xs : List A) (i : ℕ) (x : A) → i < length xs → P i x → (k : ℕ) → (k ≢ i → P k (get_or xs k d)) → P k (get_or (set xs i x) k d)
with_written P d xs i x within here k others =
    elim (cases_eq k i) [
      | inl same ↦ subst (λ j. P j (get_or (set xs i x) j d)) (sym same) (subst (P i) (sym (get_or-set_same xs i x d within)) here)
      | inr apart ↦ let other : k ≢ i = apart in subst (P k) (sym (get_or-set_other xs i k x d other)) (others other)
    ]
