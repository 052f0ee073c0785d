-- Draws from a later state are later draws.
use Rattle.std.proofs.Common.{◌≡◌, ◌∙◌, ℕ, zero, suc, ◌+◌, ◌*◌, ◌/◌, ◌^◌, ℤ, ◌+ℤ◌, ap, ap₂, arith}
use Rattle.byteorder.specs.Endian.{twos_complement}
use Rattle.ac_base.specs.Floor.{floor_div}
use Rattle.ac_noise.specs.Noise.{draw_at, left_by, next_of, right_by, state_at}

pub later : (x m k : ℕ) → state_at (state_at x m) k ≡ state_at x (m + k)
unfolding state_at
later x m zero = let place : m ≡ m + 0 = omega arith in ap (state_at x) place
later x m (suc k) = let place : suc (m + k) ≡ m + suc k = omega arith in ap next_of (later x m k) ∙ ap (state_at x) place

pub drawn : (x m n : ℕ) → draw_at (state_at x m) n ≡ draw_at x (m + n)
drawn x m n =
    let place : m + (n + 1) ≡ m + n + 1 = omega arith in
    ap (λ (s : ℕ). twos_complement 2 (s / 2 ^ 48)) (later x m (n + 1) ∙ ap (state_at x) place)

-- the draws of sample m + n, from the state before sample m on
at_sample : (x m n : ℕ) → draw_at (state_at x (2 * m)) (2 * n) ≡ draw_at x (2 * (m + n))
at_sample x m n = let place : 2 * m + 2 * n ≡ 2 * (m + n) = omega arith in drawn x (2 * m) (2 * n) ∙ ap (draw_at x) place

behind_sample : (x m n : ℕ) → draw_at (state_at x (2 * m)) (2 * n + 1) ≡ draw_at x (2 * (m + n) + 1)
behind_sample x m n = let place : 2 * m + (2 * n + 1) ≡ 2 * (m + n) + 1 = omega arith in drawn x (2 * m) (2 * n + 1) ∙ ap (draw_at x) place

pub left_later : (g x m n : ℕ) → left_by g (state_at x (2 * m)) n ≡ left_by g x (m + n)
left_later g x m n = ap (λ (d : ℤ). floor_div d g) (at_sample x m n)

pub right_later : (g x m n : ℕ) → right_by g (state_at x (2 * m)) n ≡ right_by g x (m + n)
right_later g x m n = ap₂ (λ (a b : ℤ). floor_div (a +ℤ b) (2 * g)) (at_sample x m n) (behind_sample x m n)

pub two_later : (x m : ℕ) → state_at (state_at x (2 * m)) 2 ≡ state_at x (2 * (m + 1))
two_later x m = let place : 2 * m + 2 ≡ 2 * (m + 1) = omega arith in later x (2 * m) 2 ∙ ap (state_at x) place
