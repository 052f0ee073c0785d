-- The samples of each channel.
use Rattle.std.proofs.Common.{◌≡◌, ◌∙◌, ℕ, zero, suc, ◌+◌, ◌-◌, ◌*◌, ◌/◌, ◌%◌, ◌<◌, ◌≤◌, ◌^◌, Bool, ℤ, pos, ◌*ℤ◌, List, [], ◌∷◌, slice_index_or, arith, sym, ap}
use Rattle.std.specs.Prelude.{min, if◌then◌else◌}
use Rattle.std.proofs.lemmas.Bool.{lt-ltb, le-ltb}
use Rattle.ac_base.specs.Sigma.{Lists}
use Rattle.ac_noise.specs.Noise.{left_by, left_of, noise_at, right_by, right_of, sample_count, state_at, step_of}
use Rattle.ac_noise.specs.State.{IsFilled}
use Rattle.ac_noise.proofs.Drawn.{later, left_later, right_later}
use Rattle.ac_noise.proofs.Filling.{filled_lists, silence}

module _ (seed frames n : ℕ) where
  left_inside : n < sample_count frames → noise_at seed frames 0 n ≡ left_of seed n *ℤ pos 256
  left_inside h = ap (λ (t : Bool). if t then left_of seed n *ℤ pos 256 else pos 0) (lt-ltb n (sample_count frames) h)

  right_inside : n < sample_count frames → noise_at seed frames 1 n ≡ right_of seed n *ℤ pos 256
  right_inside h = ap (λ (t : Bool). if t then right_of seed n *ℤ pos 256 else pos 0) (lt-ltb n (sample_count frames) h)

  left_outside : sample_count frames ≤ n → noise_at seed frames 0 n ≡ pos 0
  left_outside h = ap (λ (t : Bool). if t then left_of seed n *ℤ pos 256 else pos 0) (le-ltb n (sample_count frames) h)

  right_outside : sample_count frames ≤ n → noise_at seed frames 1 n ≡ pos 0
  right_outside h = ap (λ (t : Bool). if t then right_of seed n *ℤ pos 256 else pos 0) (le-ltb n (sample_count frames) h)

-- ---- which samples of a frame stand before the end

module _ (n frames given : ℕ) (is : n ≡ min 1536 (sample_count frames - 1536 * given)) where
  pub inside_of : (t : ℕ) → t < n → (t < 1536) × (1536 * given + t < sample_count frames)
  inside_of t below = (omega arith, omega arith)

  pub outside_of : (t : ℕ) → t < 1536 → n ≤ t → sample_count frames ≤ 1536 * given + t
  outside_of t below past = omega arith

-- by what the draws of a frame are divided
step_in : (given t : ℕ) → t < 1536 → 2 ^ (given % 8) ≡ step_of (1536 * given + t)
step_in given t below = let same : given ≡ (1536 * given + t) / 1536 = omega arith in ap (λ (k : ℕ). 2 ^ (k % 8)) same

module _ (seed frames given x n : ℕ) (inside : (t : ℕ) → t < n → (t < 1536) × (1536 * given + t < sample_count frames))
    (outside : (t : ℕ) → t < 1536 → n ≤ t → sample_count frames ≤ 1536 * given + t)
    (state : given < frames → x ≡ state_at seed (2 * (1536 * given))) where
  state_in : (t : ℕ) → t < n → x ≡ state_at seed (2 * (1536 * given))
  state_in t below = state (omega (arith, (inside t below).1))

  pub left_row : (row : List ℤ) → IsFilled n (λ t. left_by (2 ^ (given % 8)) x t *ℤ pos 256) silence row
      → Lists 1536 (λ t. noise_at seed frames 0 (1536 * given + t)) row
  left_row row h =
      filled_lists n _ (λ t. noise_at seed frames 0 (1536 * given + t)) row h
      (λ t below.
      ap (λ (s : ℕ). left_by (2 ^ (given % 8)) s t *ℤ pos 256) (state_in t below)
      ∙ ap (λ (v : ℤ). v *ℤ pos 256) (left_later (2 ^ (given % 8)) seed (1536 * given) t)
      ∙ ap (λ (g : ℕ). left_by g seed (1536 * given + t) *ℤ pos 256) (step_in given t (inside t below).0)
      ∙ sym (left_inside seed frames (1536 * given + t) (inside t below).1))
      (λ t below past. left_outside seed frames (1536 * given + t) (outside t below past))

  pub right_row : (row : List ℤ) → IsFilled n (λ t. right_by (2 ^ (given % 8)) x t *ℤ pos 256) silence row
      → Lists 1536 (λ t. noise_at seed frames 1 (1536 * given + t)) row
  right_row row h =
      filled_lists n _ (λ t. noise_at seed frames 1 (1536 * given + t)) row h
      (λ t below.
      ap (λ (s : ℕ). right_by (2 ^ (given % 8)) s t *ℤ pos 256) (state_in t below)
      ∙ ap (λ (v : ℤ). v *ℤ pos 256) (right_later (2 ^ (given % 8)) seed (1536 * given) t)
      ∙ ap (λ (g : ℕ). right_by g seed (1536 * given + t) *ℤ pos 256) (step_in given t (inside t below).0)
      ∙ sym (right_inside seed frames (1536 * given + t) (inside t below).1))
      (λ t below past. right_outside seed frames (1536 * given + t) (outside t below past))

-- the state before the next frame
pub next_frame : (seed frames given x y n : ℕ) → n ≡ min 1536 (sample_count frames - 1536 * given)
    → (given < frames → x ≡ state_at seed (2 * (1536 * given))) → y ≡ state_at x (2 * n) → given + 1 < frames
    → y ≡ state_at seed (2 * (1536 * (given + 1)))
next_frame seed frames given x y n is state told more =
    let before : x ≡ state_at seed (2 * (1536 * given)) = state (omega arith) in
    let whole : n ≡ 1536 = omega arith in
    let place : 2 * (1536 * given) + 2 * n ≡ 2 * (1536 * (given + 1)) = omega arith in
    told ∙ ap (λ (s : ℕ). state_at s (2 * n)) before ∙ later seed (2 * (1536 * given)) (2 * n) ∙ ap (state_at seed) place

-- ---- the six rows

pub by_channel : (P : ℕ → List ℤ → Type 0) (a b z : List ℤ) → P 0 a → P 1 b → P 2 z → P 3 z → P 4 z → P 5 z → (c : ℕ) → c < 6
    → P c (slice_index_or (a ∷ b ∷ z ∷ z ∷ z ∷ z ∷ []) c [])
by_channel P a b z p q r s t u zero h = p
by_channel P a b z p q r s t u (suc zero) h = q
by_channel P a b z p q r s t u (suc (suc zero)) h = r
by_channel P a b z p q r s t u (suc (suc (suc zero))) h = s
by_channel P a b z p q r s t u (suc (suc (suc (suc zero)))) h = t
by_channel P a b z p q r s t u (suc (suc (suc (suc (suc zero))))) h = u
by_channel P a b z p q r s t u (suc (suc (suc (suc (suc (suc c)))))) h = absurd (omega arith)
