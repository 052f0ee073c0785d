-- The symmetries of the cosine, and its bound.
use Rattle.std.proofs.Common.{◌≡◌, ℕ, zero, suc, lit≤, ◌+◌, ◌-◌, ◌*◌, ◌/◌, ◌%◌, ◌^◌, ◌<◌, ◌≤◌, min, refl, arith, ap, sym, ◌∙◌, inl, inr, pos, neg_ℤ, unsigned_abs}
use Rattle.std.proofs.lemmas.Bool.{cases_lt}
use Rattle.std.proofs.lemmas.Bool.Decides.{nat_tests}
use Rattle.std.proofs.lemmas.Int.{ints}
use Rattle.ac_base.specs.Quarter.{pair_at, cosine_of, angle, half, root}
use Rattle.ac_base.specs.Cosine.{quarter_of, half_wave, cosine_at}

pub half_low : (q : ℕ) → q ≤ 512 → half_wave q ≡ pos (quarter_of q)
unfolding half_wave
half_low q low = grind (arith, nat_tests)

pub half_high : (q : ℕ) → 512 < q → half_wave q ≡ neg_ℤ (pos (quarter_of (1024 - q)))
unfolding half_wave
half_high q high = grind (arith, nat_tests)

pub quarter_last : quarter_of 512 ≡ 0
unfolding quarter_of
quarter_last = refl

pub cosine_is : (p : ℕ) → cosine_at p ≡ half_wave (min (p % 2048) (2048 - p % 2048))
unfolding cosine_at
cosine_is p = refl

turn_low : (q s : ℕ) → q + s ≡ 1024 → q < 512 → half_wave s ≡ neg_ℤ (half_wave q)
turn_low q s sum low =
    let here = half_low q (omega arith) in
    let there = half_high s (omega arith) in
    let same : quarter_of (1024 - s) ≡ quarter_of q = ap quarter_of (omega arith) in
    omega (arith, ints)

turn_middle : (q s : ℕ) → q ≡ 512 → s ≡ 512 → half_wave s ≡ neg_ℤ (half_wave q)
turn_middle q s is_q is_s =
    let last = quarter_last in
    let here = half_low 512 (omega arith) in
    let at_q = ap half_wave is_q in
    let at_s = ap half_wave is_s in
    omega (arith, ints)

pub half_turn : (q s : ℕ) → q + s ≡ 1024 → half_wave s ≡ neg_ℤ (half_wave q)
half_turn q s sum =
    elim (cases_lt q 512) [
      | inl low ↦ turn_low q s sum low
      | inr rest ↦
          elim (cases_lt s 512) [
            | inl high ↦ let back = turn_low s q (omega arith) high in omega (arith, ints)
            | inr same ↦ turn_middle q s (omega arith) (omega arith)
          ]
    ]

-- p and s are opposite
pub cosine_same : (p s m : ℕ) → p + s ≡ m * 2048 → cosine_at s ≡ cosine_at p
cosine_same p s m sum =
    let places : min (s % 2048) (2048 - s % 2048) ≡ min (p % 2048) (2048 - p % 2048) = omega arith in
    cosine_is s ∙ ap half_wave places ∙ sym (cosine_is p)

-- p and s differ by whole periods
pub cosine_period : (p s m : ℕ) → s ≡ p + m * 2048 → cosine_at s ≡ cosine_at p
cosine_period p s m sum =
    let places : s % 2048 ≡ p % 2048 = omega arith in
    cosine_is s ∙ ap (λ r. half_wave (min r (2048 - r))) places ∙ sym (cosine_is p)

-- p and s are opposite, and half a period apart
pub cosine_turn : (p s m : ℕ) → p + s ≡ m * 2048 + 1024 → cosine_at s ≡ neg_ℤ (cosine_at p)
cosine_turn p s m sum =
    let places : min (p % 2048) (2048 - p % 2048) + min (s % 2048) (2048 - s % 2048) ≡ 1024 = omega arith in
    let turned = half_turn _ _ places in
    let here = cosine_is p in
    let there = cosine_is s in
    omega (arith, ints)

-- p and s are half a period apart
pub cosine_half : (p s : ℕ) → s % 2048 ≡ (p + 1024) % 2048 → cosine_at s ≡ neg_ℤ (cosine_at p)
cosine_half p s apart =
    let turned = cosine_turn (2048 - p % 2048) s ((s + 2048 - p % 2048) / 2048) (omega arith) in
    let same = cosine_same p (2048 - p % 2048) (p / 2048 + 1) (omega arith) in
    omega (arith, ints)

angle_bound : angle ≤ 2 ^ 60
unfolding angle half root
angle_bound = lit≤ tt

-- the quarter table is at most 2 ^ 30
pub pair_bound : (j : ℕ) → ((pair_at j).0 ≤ 2 ^ 60) × ((pair_at j).1 ≤ 2 ^ 60)
unfolding pair_at
pair_bound zero = (omega arith, angle_bound)
pair_bound (suc j) = let before = pair_bound j in (before.1, omega arith)

pub quarter_bound : (j : ℕ) → quarter_of j ≤ 2 ^ 30
unfolding quarter_of cosine_of
quarter_bound j = let b = pair_bound j in grind (arith, nat_tests)

pub half_bound : (q : ℕ) → unsigned_abs (half_wave q) ≤ 2 ^ 30
half_bound q =
    elim (cases_lt 512 q) [
      | inl high ↦ let is = half_high q high in let b = quarter_bound (1024 - q) in omega (arith, ints)
      | inr low ↦ let is = half_low q low in let b = quarter_bound q in omega (arith, ints)
    ]

pub cosine_bound : (p : ℕ) → unsigned_abs (cosine_at p) ≤ 2 ^ 30
cosine_bound p =
    let is = cosine_is p in
    let b = half_bound (min (p % 2048) (2048 - p % 2048)) in
    rw is b
