-- What the entries of a folded list are.
use Rattle.std.proofs.Common.{◌≡◌, ℕ, ◌+◌, ◌-◌, ◌<◌, ◌≤◌, ℤ, pos, List, ◌+ℤ◌, ◌-ℤ◌, slice_index_or, ◌*ℤ◌, arith, ap, ◌∙◌}
use Rattle.std.proofs.lemmas.Bool.Decides.{nat_tests}
use Rattle.ac_base.specs.Sigma.{sigma}
use Rattle.ac_base.specs.Cosine.{cosine_at}
use Rattle.ac_mdct.specs.Fold.{folded}
use Rattle.ac_mdct.specs.Forward.{phase}
use Rattle.ac_mdct.specs.Place.{place}

-- the sum over folded values
abbrev pub folded_sum : (ℕ → ℤ) → ℕ → ℤ
folded_sum u k = sigma 256 (λ i. u i *ℤ cosine_at (phase k (place i)))

pub folded_low : (v : List ℤ) (i : ℕ) → i < 128 → folded v i ≡ slice_index_or v i (pos 0) -ℤ slice_index_or v (255 - i) (pos 0)
unfolding folded
folded_low v i low = grind (arith, nat_tests)

pub folded_high : (v : List ℤ) (i : ℕ) → 128 ≤ i → folded v i ≡ slice_index_or v (i + 128) (pos 0) +ℤ slice_index_or v (639 - i) (pos 0)
unfolding folded
folded_high v i high = grind (arith, nat_tests)

pub folded_place : (v : List ℤ) (n : ℕ) → 256 ≤ n → folded v (n - 128) ≡ slice_index_or v n (pos 0) +ℤ slice_index_or v (767 - n) (pos 0)
folded_place v n high =
    let here : n - 128 + 128 ≡ n = omega arith in
    let there : 639 - (n - 128) ≡ 767 - n = omega arith in
    folded_high v (n - 128) (omega arith) ∙ ap (λ i. slice_index_or v i (pos 0) +ℤ slice_index_or v (639 - (n - 128)) (pos 0)) here ∙ ap (λ i. slice_index_or v n (pos 0) +ℤ slice_index_or v i (pos 0)) there
