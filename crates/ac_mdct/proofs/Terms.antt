-- Sums of products stay below 2 ^ 63.
use Rattle.std.proofs.Common.{◌≡◌, ℕ, ◌+◌, ◌-◌, ◌*◌, ◌^◌, ◌<◌, ◌≤◌, ℤ, pos, neg_ℤ, ◌*ℤ◌, List, slice_index_or, unsigned_abs, arith, ap, sym, ◌∙◌, subst}
use Rattle.std.proofs.lemmas.Int.{unsigned_abs-mul}
use Rattle.std.proofs.lemmas.Nat.{mul-le}
use Rattle.ac_base.specs.Sigma.{sigma}
use Rattle.ac_base.specs.Sigma.{Lists}
use Rattle.ac_base.specs.Cosine.{cosine_at}
use Rattle.ac_base.specs.Sigma.{Within}
use Rattle.ac_base.proofs.Waves.{cosine_bound}
use Rattle.ac_base.proofs.Products.{mul_neg}
use Rattle.ac_base.proofs.Rearranged.{sigma_same, sigma_neg}
use Rattle.ac_base.proofs.Sums.{sigma_bound}
use Rattle.ac_mdct.proofs.Spins.{power_turns}

pub terms_bound : (f g : ℕ → ℤ) (m k n : ℕ) → ((i : ℕ) → i < n → unsigned_abs (f i) ≤ m) → ((i : ℕ) → unsigned_abs (g i) ≤ k) → unsigned_abs (sigma n (λ i. f i *ℤ g i)) ≤ n * (m * k)
terms_bound f g m k n left right =
    sigma_bound (λ i. f i *ℤ g i) (m * k) n (λ i below. rw unsigned_abs-mul (mul-le _ _ m k (left i below) (right i)))

-- a sum from 5 ^ a on, from those at 0 to 255
pub power_sums : (w : ℕ → ℤ) (sums : List ℤ) → Lists 256 (λ k. sigma 256 (λ i. w i *ℤ cosine_at (5 ^ (i + k)))) sums → (a : ℕ) → a < 256 → slice_index_or sums a (pos 0) ≡ sigma 256 (λ b. w b *ℤ cosine_at (5 ^ (a + b)))
power_sums w sums are a low =
    are a low
    ∙ sigma_same 256 (λ i. w i *ℤ cosine_at (5 ^ (i + a))) (λ b. w b *ℤ cosine_at (5 ^ (a + b)))
    (λ i below. let turn : i + a ≡ a + i = omega arith in ap (λ n. w i *ℤ cosine_at (5 ^ n)) turn)

pub power_sums_turned : (w : ℕ → ℤ) (sums : List ℤ) → Lists 256 (λ k. sigma 256 (λ i. w i *ℤ cosine_at (5 ^ (i + k)))) sums → (a : ℕ) → 256 ≤ a → a < 512 → neg_ℤ (slice_index_or sums (a - 256) (pos 0)) ≡ sigma 256 (λ b. w b *ℤ cosine_at (5 ^ (a + b)))
power_sums_turned w sums are a high below =
    ap neg_ℤ (power_sums w sums are (a - 256) (omega arith))
    ∙ sym (sigma_neg 256 (λ b. w b *ℤ cosine_at (5 ^ (a - 256 + b))))
    ∙ sigma_same 256 (λ b. neg_ℤ (w b *ℤ cosine_at (5 ^ (a - 256 + b)))) (λ b. w b *ℤ cosine_at (5 ^ (a + b)))
    (λ b within.
    let place : a - 256 + b + 256 ≡ a + b = omega arith in
    sym (mul_neg (w b) (cosine_at (5 ^ (a - 256 + b)))) ∙ ap (λ z. w b *ℤ z) (sym (power_turns (a - 256 + b)) ∙ ap (λ n. cosine_at (5 ^ n)) place))

pub power_sums_bound : (w sums : List ℤ) → Within (2 ^ 24) 256 w → Lists 256 (λ k. sigma 256 (λ i. slice_index_or w i (pos 0) *ℤ cosine_at (5 ^ (i + k)))) sums → (a : ℕ) → a < 256 → unsigned_abs (slice_index_or sums a (pos 0)) ≤ 2 ^ 62
power_sums_bound w sums small are a below =
    subst (λ (z : ℤ). unsigned_abs z ≤ 2 ^ 62) (sym (are a below))
    (terms_bound (λ i. slice_index_or w i (pos 0)) (λ i. cosine_at (5 ^ (i + a))) (2 ^ 24) (2 ^ 30) 256 small (λ i. cosine_bound (5 ^ (i + a))))
