-- Sums step by step.
use Rattle.std.proofs.Common.{◌≡◌, ℕ, suc, ◌+◌, ◌-◌, ◌≤◌, ap, ◌∙◌, arith}
use Rattle.ac_base.specs.Sigma.{sum_below}

pub sum_none : (n : ℕ) (f : ℕ → ℕ) → n ≡ 0 → sum_below n f ≡ 0
unfolding sum_below
sum_none n f none = ap (λ m. sum_below m f) none

pub sum_next : (m n : ℕ) (f : ℕ → ℕ) → m ≡ n + 1 → sum_below m f ≡ sum_below n f + f n
unfolding sum_below
sum_next m n f next = let same : m ≡ suc n = omega arith in ap (λ k. sum_below k f) same

-- a sum from a start on, with the next term
pub sum_from : (start k : ℕ) (f : ℕ → ℕ) → start ≤ k → sum_below (k + 1 - start) (λ i. f (start + i)) ≡ sum_below (k - start) (λ i. f (start + i)) + f k
sum_from start k f from =
    let next = sum_next (k + 1 - start) (k - start) (λ i. f (start + i)) (omega arith) in
    let here : f (start + (k - start)) ≡ f k = ap f (omega arith) in
    next ∙ ap (λ x. sum_below (k - start) (λ i. f (start + i)) + x) here
