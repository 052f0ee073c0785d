-- The bits of lists of rows, one after the other.
use Rattle.std.proofs.Common.{◌≡◌, Option, ℕ, zero, suc, ◌≤◌, Bool, List, [], ◌∷◌, length, refl, arith}
use Rattle.ac_codec.specs.Codec.{Codec, each, cons, absent, given, tested_bit, some_spell}
use Rattle.ac_codec.specs.Lists.{spelled_each}
use Rattle.ac_rows.specs.BlockRows.{joined_each, phase_each}

pub each_bits : {A : Type 0} (n i : ℕ) (c : ℕ → Codec A) (f : A → List Bool) (xs : List A) → ((k : ℕ) → (x : A) → (c k).spell x ≡ f x)
    → length xs ≤ n → (each n i c).spell xs ≡ spelled_each f xs
unfolding each cons absent
each_bits zero i c f [] h le = refl
each_bits zero i c f (x ∷ xs) h le = absurd (omega arith)
each_bits (suc n) i c f [] h le = refl
each_bits (suc n) i c f (x ∷ xs) h le = rw (h i x, each_bits n (suc i) c f xs h (omega arith)) refl

pub joined_bits : (n : ℕ) (xs : List (Option Bool)) → length xs ≡ 18 → (joined_each n).spell xs ≡ spelled_each (some_spell (λ b. b ∷ [])) xs
unfolding joined_each given tested_bit
joined_bits n xs h = each_bits 18 0 _ (some_spell (λ b. b ∷ [])) xs (λ k x. refl) (omega (arith, h))

pub phases_bits : (n : ℕ) (xs : List (Option Bool)) → length xs ≡ 18 → (phase_each n).spell xs ≡ spelled_each (some_spell (λ b. b ∷ [])) xs
unfolding phase_each given tested_bit
phases_bits n xs h = each_bits 18 0 _ (some_spell (λ b. b ∷ [])) xs (λ k x. refl) (omega (arith, h))
