-- Sums over odd phases as sums over powers of five.
use Rattle.std.proofs.Common.{◌≡◌, ◌⊎◌, ℕ, zero, suc, ◌+◌, ◌*◌, ◌/◌, ◌%◌, ◌^◌, ◌<◌, ◌≤◌, Bool, true, false, ℤ, pos, neg_ℤ, ◌*ℤ◌, List, slice_index_or, refl, arith, ap, ap₂, sym, ◌∙◌, inl, inr}
use Rattle.std.specs.Prelude.{◌||◌, nat_eq, nat_lt}
use Rattle.std.proofs.lemmas.Bool.{eqb-true, ltb-true, cases_lt}
use Rattle.std.proofs.lemmas.Bool.Decides.{nat_tests}
use Rattle.std.proofs.lemmas.Nat.{pow-add}
use Rattle.std.proofs.Math.Nat.{pow-suc, mul_comm}
use Rattle.ac_base.specs.Sigma.{sigma}
use Rattle.ac_base.specs.Cosine.{cosine_at}
use Rattle.ac_base.proofs.Tests.{all_below-at}
use Rattle.ac_base.proofs.Products.{mul_neg, neg_mul}
use Rattle.ac_base.proofs.Rearranged.{sigma_same, sigma_reordered, Reorders}
use Rattle.ac_base.proofs.Waves.{cosine_same, cosine_period, cosine_half}
use Rattle.ac_mdct.specs.Forward.{phase}
use Rattle.ac_mdct.specs.Inverse.{inverse_sum}
use Rattle.ac_mdct.specs.Place.{place}
use Rattle.ac_base.specs.Sigma.{Lists}
use Rattle.ac_mdct.proofs.Folds.{folded_sum}
use Rattle.ac_mdct.proofs.Halves.{place_low, place_high}
use Rattle.ac_mdct.specs.Powers.{log_of, forward_pick, inverse_pick, turned_by, forward_spun, inverse_spun}

or_cases : (a b : Bool) → (a || b) ≡ true → (a ≡ true) ⊎ (b ≡ true)
or_cases true b h = inl refl
or_cases false b h = inr h

-- the rules of the tables, computed
pub log_below : (h : ℕ) → h < 512 → log_of h < 512
unfolding log_of
log_below h below = ltb-true _ _ (all_below-at 512 (λ k. nat_lt (log_of k) 512) refl h below)

log_power : (h : ℕ) → h < 512 → (2 * h + 1 ≡ 5 ^ log_of h % 2048) ⊎ (2 * h + 1 + 5 ^ log_of h % 2048 ≡ 2048)
unfolding log_of
log_power h below =
    elim (or_cases _ _ (all_below-at 512 (λ k. nat_eq (2 * k + 1) (5 ^ log_of k % 2048) || nat_eq (2 * k + 1 + 5 ^ log_of k % 2048) 2048) refl h below)) [
      | inl same ↦ inl (eqb-true _ _ same)
      | inr opposite ↦ inr (eqb-true _ _ opposite)
    ]

pub forward_below : (b : ℕ) → b < 256 → forward_pick b < 256
unfolding forward_pick
forward_below b below = ltb-true _ _ (all_below-at 256 (λ k. nat_lt (forward_pick k) 256) refl b below)

pub inverse_below : (b : ℕ) → b < 256 → inverse_pick b < 256
unfolding inverse_pick
inverse_below b below = ltb-true _ _ (all_below-at 256 (λ k. nat_lt (inverse_pick k) 256) refl b below)

forward_there : (b : ℕ) → b < 256 → log_of (place (forward_pick b) + 128) % 256 ≡ b
unfolding forward_pick log_of place
forward_there b below = eqb-true _ _ (all_below-at 256 (λ k. nat_eq (log_of (place (forward_pick k) + 128) % 256) k) refl b below)

forward_back : (i : ℕ) → i < 256 → forward_pick (log_of (place i + 128) % 256) ≡ i
unfolding forward_pick log_of place
forward_back i below = eqb-true _ _ (all_below-at 256 (λ k. nat_eq (forward_pick (log_of (place k + 128) % 256)) k) refl i below)

inverse_there : (b : ℕ) → b < 256 → log_of (inverse_pick b) % 256 ≡ b
unfolding inverse_pick log_of
inverse_there b below = eqb-true _ _ (all_below-at 256 (λ k. nat_eq (log_of (inverse_pick k) % 256) k) refl b below)

inverse_back : (i : ℕ) → i < 256 → inverse_pick (log_of i % 256) ≡ i
unfolding inverse_pick log_of
inverse_back i below = eqb-true _ _ (all_below-at 256 (λ k. nat_eq (inverse_pick (log_of k % 256)) k) refl i below)

pub forward_order : Reorders 256 forward_pick (λ i. log_of (place i + 128) % 256)
forward_order = record { to_below = forward_below; from_below = λ i below. omega arith; there = forward_there; back = forward_back }

pub inverse_order : Reorders 256 inverse_pick (λ i. log_of i % 256)
inverse_order = record { to_below = inverse_below; from_below = λ i below. omega arith; there = inverse_there; back = inverse_back }

-- a factor that is a power of five, or its opposite
power_times : (x e m : ℕ) → (x ≡ 5 ^ e % 2048) ⊎ (x + 5 ^ e % 2048 ≡ 2048) → cosine_at (x * m) ≡ cosine_at (5 ^ e * m)
power_times x e m (inl same) =
    let whole : 5 ^ e ≡ x + (5 ^ e / 2048) * 2048 = omega arith in
    let times = ap (λ z. z * m) whole in
    sym (cosine_period (x * m) (5 ^ e * m) ((5 ^ e / 2048) * m) (omega arith))
power_times x e m (inr opposite) =
    let whole : x + 5 ^ e ≡ (5 ^ e / 2048 + 1) * 2048 = omega arith in
    let times = ap (λ z. z * m) whole in
    sym (cosine_same (x * m) (5 ^ e * m) ((5 ^ e / 2048 + 1) * m) (omega arith))

-- the cosine of a product of two odd numbers is that of a power
pub two_powers : (h g : ℕ) → h < 512 → g < 512 → cosine_at ((2 * h + 1) * (2 * g + 1)) ≡ cosine_at (5 ^ (log_of h + log_of g))
two_powers h g below_h below_g =
    let first = power_times (2 * h + 1) (log_of h) (2 * g + 1) (log_power h below_h) in
    let turn : cosine_at (5 ^ log_of h * (2 * g + 1)) ≡ cosine_at ((2 * g + 1) * 5 ^ log_of h) = ap cosine_at (mul_comm (5 ^ log_of h) (2 * g + 1)) in
    let second = power_times (2 * g + 1) (log_of g) (5 ^ log_of h) (log_power g below_g) in
    let joined : cosine_at (5 ^ log_of g * 5 ^ log_of h) ≡ cosine_at (5 ^ (log_of h + log_of g)) = ap cosine_at (mul_comm (5 ^ log_of g) (5 ^ log_of h) ∙ sym (pow-add 5 (log_of h) (log_of g))) in
    first ∙ turn ∙ second ∙ joined

-- 256 powers on is half a period on
half_power : (j : ℕ) → 5 ^ (j + 256) % 2048 ≡ (5 ^ j + 1024) % 2048
half_power zero = refl
half_power (suc j) =
    let rest = half_power j in
    let low = pow-suc 5 j in
    let place : suc j + 256 ≡ suc (j + 256) = omega arith in
    let high = ap (λ n. 5 ^ n) place ∙ pow-suc 5 (j + 256) in
    omega arith

pub power_turns : (j : ℕ) → cosine_at (5 ^ (j + 256)) ≡ neg_ℤ (cosine_at (5 ^ j))
power_turns j = cosine_half (5 ^ j) (5 ^ (j + 256)) (half_power j)

turned_low : (e : ℕ) (u : ℤ) → e < 256 → turned_by e u ≡ u
unfolding turned_by
turned_low e u low = grind (arith, nat_tests)

turned_high : (e : ℕ) (u : ℤ) → 256 ≤ e → turned_by e u ≡ neg_ℤ u
unfolding turned_by
turned_high e u high = grind (arith, nat_tests)

-- a term in the order of logarithms is a term of the sum
term : (u : ℤ) (h g b : ℕ) → h < 512 → g < 512 → log_of g % 256 ≡ b → turned_by (log_of g) u *ℤ cosine_at (5 ^ (log_of h + b)) ≡ u *ℤ cosine_at ((2 * h + 1) * (2 * g + 1))
term u h g b below_h below_g is =
    let two = two_powers h g below_h below_g in
    let below = log_below g below_g in
    elim (cases_lt (log_of g) 256) [
      | inl low ↦
          let same : log_of h + b ≡ log_of h + log_of g = omega arith in
          ap₂ ◌*ℤ◌ (turned_low (log_of g) u low) (ap (λ j. cosine_at (5 ^ j)) same ∙ sym two)
      | inr high ↦
          let same : log_of h + log_of g ≡ log_of h + b + 256 = omega arith in
          let half : cosine_at ((2 * h + 1) * (2 * g + 1)) ≡ neg_ℤ (cosine_at (5 ^ (log_of h + b))) = two ∙ ap (λ j. cosine_at (5 ^ j)) same ∙ power_turns (log_of h + b) in
          ap (λ z. z *ℤ cosine_at (5 ^ (log_of h + b))) (turned_high (log_of g) u high)
          ∙ neg_mul u (cosine_at (5 ^ (log_of h + b)))
          ∙ sym (mul_neg u (cosine_at (5 ^ (log_of h + b))))
          ∙ ap (λ z. u *ℤ z) (sym half)
    ]

place_below : (i : ℕ) → i < 256 → place i + 128 < 512
place_below i below =
    elim (cases_lt i 128) [
      | inl low ↦ let is = place_low i low in omega arith
      | inr high ↦ let is = place_high i high in omega arith
    ]

pub forward_spins : (u w : List ℤ) (k : ℕ) → k < 256 → Lists 256 (forward_spun u) w → sigma 256 (λ b. slice_index_or w b (pos 0) *ℤ cosine_at (5 ^ (log_of k + b))) ≡ folded_sum (λ i. slice_index_or u i (pos 0)) k
forward_spins u w k below spun =
    let h : ℕ → ℤ = λ i. slice_index_or u i (pos 0) *ℤ cosine_at ((2 * k + 1) * (2 * (place i + 128) + 1)) in
    let terms =
    sigma_same 256 (λ b. slice_index_or w b (pos 0) *ℤ cosine_at (5 ^ (log_of k + b))) (λ b. h (forward_pick b))
    (λ b within.
    ap (λ z. z *ℤ cosine_at (5 ^ (log_of k + b))) (spun b within)
    ∙ term (slice_index_or u (forward_pick b) (pos 0)) k (place (forward_pick b) + 128) b (omega arith) (place_below (forward_pick b) (forward_below b within)) (forward_there b within)) in
    let order = sigma_reordered 256 forward_pick (λ i. log_of (place i + 128) % 256) h forward_order in
    let phases =
    sigma_same 256 h (λ i. slice_index_or u i (pos 0) *ℤ cosine_at (phase k (place i)))
    (λ i within. let same : (2 * k + 1) * (2 * (place i + 128) + 1) ≡ phase k (place i) = omega arith in ap (λ p. slice_index_or u i (pos 0) *ℤ cosine_at p) same) in
    terms ∙ order ∙ phases

pub inverse_spins : (coefs w : List ℤ) (n : ℕ) → n < 384 → Lists 256 (inverse_spun coefs) w → sigma 256 (λ b. slice_index_or w b (pos 0) *ℤ cosine_at (5 ^ (log_of (n + 128) + b))) ≡ inverse_sum coefs n
inverse_spins coefs w n below spun =
    let h : ℕ → ℤ = λ k. slice_index_or coefs k (pos 0) *ℤ cosine_at ((2 * (n + 128) + 1) * (2 * k + 1)) in
    let terms =
    sigma_same 256 (λ b. slice_index_or w b (pos 0) *ℤ cosine_at (5 ^ (log_of (n + 128) + b))) (λ b. h (inverse_pick b))
    (λ b within.
    let pick = inverse_below b within in
    ap (λ z. z *ℤ cosine_at (5 ^ (log_of (n + 128) + b))) (spun b within)
    ∙ term (slice_index_or coefs (inverse_pick b) (pos 0)) (n + 128) (inverse_pick b) b (omega arith) (omega arith) (inverse_there b within)) in
    let order = sigma_reordered 256 inverse_pick (λ i. log_of i % 256) h inverse_order in
    let phases =
    sigma_same 256 h (λ k. slice_index_or coefs k (pos 0) *ℤ cosine_at (phase k n))
    (λ k within. let same : (2 * (n + 128) + 1) * (2 * k + 1) ≡ phase k n = omega arith in ap (λ p. slice_index_or coefs k (pos 0) *ℤ cosine_at p) same) in
    terms ∙ order ∙ phases

pub power_step : (p j : ℕ) → p ≡ 5 ^ j % 2048 → p * 5 % 2048 ≡ 5 ^ (j + 1) % 2048
power_step p j is =
    let more = pow-suc 5 j in
    let place : j + 1 ≡ suc j = omega arith in
    let next = ap (λ n. 5 ^ n) place ∙ more in
    omega arith

pub power_cosine : (p j : ℕ) → p ≡ 5 ^ j % 2048 → cosine_at p ≡ cosine_at (5 ^ j)
power_cosine p j is = sym (cosine_period p (5 ^ j) (5 ^ j / 2048) (omega arith))
