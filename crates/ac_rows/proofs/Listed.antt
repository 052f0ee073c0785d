-- Lists by their entries.
use Rattle.std.proofs.Common.{◌≡◌, ℕ, zero, suc, ◌+◌, ◌<◌, List, [], ◌∷◌, length, get_or, refl, ap, ap₂, ◌∙◌, arith}
use Rattle.ac_rows.specs.Filled.{listed}

-- a list of n entries, each of which is told, is the list of them
listed_from : {A : Type 0} (n i : ℕ) (xs : List A) (f : ℕ → A) (d : A) → length xs ≡ n → ((k : ℕ) → k < n → get_or xs k d ≡ f (i + k))
    → xs ≡ listed n i f
unfolding listed
listed_from zero i [] f d e h = refl
listed_from zero i (x ∷ xs) f d e h = absurd (omega (arith, e))
listed_from (suc n) i [] f d e h = absurd (omega (arith, e))
listed_from (suc n) i (x ∷ xs) f d e h =
    let first : x ≡ f i = h 0 (omega arith) ∙ ap f (omega arith) in
    let later : xs ≡ listed n (suc i) f =
    listed_from n (suc i) xs f d (omega (arith, e)) (λ k lt. h (suc k) (omega arith) ∙ ap f (omega arith)) in
    ap₂ (λ y ys. y ∷ ys) first later

pub is_listed : {A : Type 0} (n : ℕ) (xs : List A) (f : ℕ → A) (d : A) → length xs ≡ n → ((k : ℕ) → k < n → get_or xs k d ≡ f k)
    → xs ≡ listed n 0 f
is_listed n xs f d e h = listed_from n 0 xs f d e (λ k lt. h k lt ∙ ap f (omega arith))
