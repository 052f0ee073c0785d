-- From the sums that the code takes to those of the definitions.
use Rattle.std.proofs.Common.{◌≡◌, ℕ, ◌+◌, ◌-◌, ◌^◌, ◌<◌, ◌≤◌, ℤ, pos, neg_ℤ, ◌*ℤ◌, List, slice_index_or, arith, ap, sym, ◌∙◌, inl, inr}
use Rattle.std.proofs.lemmas.Bool.{cases_lt}
use Rattle.std.proofs.lemmas.Bool.Decides.{nat_tests}
use Rattle.ac_base.specs.Sigma.{sigma}
use Rattle.ac_base.specs.Cosine.{cosine_at}
use Rattle.ac_base.proofs.Products.{mul_neg}
use Rattle.ac_base.proofs.Rearranged.{sigma_same, sigma_neg}
use Rattle.ac_mdct.specs.Fold.{folded}
use Rattle.ac_mdct.specs.Forward.{phase, forward_sum, windowed}
use Rattle.ac_mdct.specs.Inverse.{inverse_sum}
use Rattle.ac_mdct.specs.Place.{place, unfolded}
use Rattle.ac_mdct.specs.Powers.{log_of, forward_spun}
use Rattle.ac_base.specs.Sigma.{Lists}
use Rattle.ac_mdct.proofs.Halves.{odd_places, even_places, forward_folds, place_low, place_high}
use Rattle.ac_mdct.proofs.Spins.{forward_spins}

pub forward_chain : (xs v u w : List ℤ) (k : ℕ) → k < 256 → Lists 512 (windowed xs) v → Lists 256 (folded v) u → Lists 256 (forward_spun u) w → sigma 256 (λ b. slice_index_or w b (pos 0) *ℤ cosine_at (5 ^ (log_of k + b))) ≡ forward_sum (windowed xs) k
forward_chain xs v u w k below weighed folds spun =
    let spins = forward_spins u w k below spun in
    let entries =
    sigma_same 256 (λ i. slice_index_or u i (pos 0) *ℤ cosine_at (phase k (place i))) (λ i. folded v i *ℤ cosine_at (phase k (place i)))
    (λ i within. ap (λ z. z *ℤ cosine_at (phase k (place i))) (folds i within)) in
    let samples =
    sigma_same 512 (λ n. slice_index_or v n (pos 0) *ℤ cosine_at (phase k n)) (λ n. windowed xs n *ℤ cosine_at (phase k n))
    (λ n within. ap (λ z. z *ℤ cosine_at (phase k n)) (weighed n within)) in
    spins ∙ entries ∙ sym (forward_folds v k) ∙ samples

-- T at two places
odd_sums : (coefs : List ℤ) (n m : ℕ) → n + m ≡ 255 → inverse_sum coefs m ≡ neg_ℤ (inverse_sum coefs n)
odd_sums coefs n m sum =
    sigma_same 256 (λ k. slice_index_or coefs k (pos 0) *ℤ cosine_at (phase k m)) (λ k. neg_ℤ (slice_index_or coefs k (pos 0) *ℤ cosine_at (phase k n)))
    (λ k within. ap (λ z. slice_index_or coefs k (pos 0) *ℤ z) (odd_places k n m sum) ∙ mul_neg (slice_index_or coefs k (pos 0)) (cosine_at (phase k n)))
    ∙ sigma_neg 256 (λ k. slice_index_or coefs k (pos 0) *ℤ cosine_at (phase k n))

even_sums : (coefs : List ℤ) (n m : ℕ) → n + m ≡ 767 → inverse_sum coefs m ≡ inverse_sum coefs n
even_sums coefs n m sum =
    sigma_same 256 (λ k. slice_index_or coefs k (pos 0) *ℤ cosine_at (phase k m)) (λ k. slice_index_or coefs k (pos 0) *ℤ cosine_at (phase k n))
    (λ k within. ap (λ z. slice_index_or coefs k (pos 0) *ℤ z) (even_places k n m sum))

first_is : (sums : List ℤ) (n : ℕ) → n < 128 → unfolded sums n ≡ slice_index_or sums n (pos 0)
unfolding unfolded
first_is sums n below = grind (arith, nat_tests)

second_is : (sums : List ℤ) (n : ℕ) → 128 ≤ n → n < 256 → unfolded sums n ≡ neg_ℤ (slice_index_or sums (255 - n) (pos 0))
unfolding unfolded
second_is sums n from below = grind (arith, nat_tests)

third_is : (sums : List ℤ) (n : ℕ) → 256 ≤ n → n < 384 → unfolded sums n ≡ slice_index_or sums (n - 128) (pos 0)
unfolding unfolded
third_is sums n from below = grind (arith, nat_tests)

fourth_is : (sums : List ℤ) (n : ℕ) → 384 ≤ n → unfolded sums n ≡ slice_index_or sums (639 - n) (pos 0)
unfolding unfolded
fourth_is sums n from = grind (arith, nat_tests)

pub unfolded_is : (coefs sums : List ℤ) (n : ℕ) → n < 512 → Lists 256 (λ i. inverse_sum coefs (place i)) sums → unfolded sums n ≡ inverse_sum coefs n
unfolded_is coefs sums n below kept =
    elim (cases_lt n 128) [
      | inl first ↦ first_is sums n first ∙ kept n (omega arith) ∙ ap (λ m. inverse_sum coefs m) (place_low n first)
      | inr from ↦
          elim (cases_lt n 256) [
            | inl second ↦
                second_is sums n from second
                ∙ ap neg_ℤ (kept (255 - n) (omega arith) ∙ ap (λ m. inverse_sum coefs m) (place_low (255 - n) (omega arith)))
                ∙ sym (odd_sums coefs (255 - n) n (omega arith))
            | inr after ↦
                elim (cases_lt n 384) [
                  | inl third ↦
                      let at : n - 128 + 128 ≡ n = omega arith in
                      third_is sums n after third ∙ kept (n - 128) (omega arith) ∙ ap (λ m. inverse_sum coefs m) (place_high (n - 128) (omega arith) ∙ at)
                  | inr last ↦
                      let at : 639 - n + 128 ≡ 767 - n = omega arith in
                      fourth_is sums n last ∙ kept (639 - n) (omega arith) ∙ ap (λ m. inverse_sum coefs m) (place_high (639 - n) (omega arith) ∙ at) ∙ sym (even_sums coefs (767 - n) n (omega arith))
                ]
          ]
    ]
