-- Sums of products with factors from each place on.
use mir.Val.{of_z, to_z}
use Rattle.std.proofs.Common.{◌≡◌, ℕ, ◌+◌, ◌*◌, ◌^◌, ◌<◌, ◌≤◌, ℤ, pos, negsuc, ◌+ℤ◌, ◌*ℤ◌, List, unsigned_abs, SFits, w32, arith, ap, sym, ◌∙◌}
use Rattle.std.proofs.lemmas.Int.{ints, to_z-of_z, unsigned_abs-mul}
use Rattle.std.proofs.lemmas.Nat.{mul-le}
use Rattle.ac_base.specs.Sigma.{Within, sigma}
use Rattle.ac_base.proofs.Sums.{sigma_bound}
use Rattle.ac_convolution.specs.Negacyclic.{items}

one_bound : (a b : ℤ) → unsigned_abs a ≤ 2 ^ 24 → unsigned_abs b ≤ 2 ^ 30 → unsigned_abs (a *ℤ b) ≤ 2 ^ 54
one_bound a b left right =
    let both = mul-le (unsigned_abs a) (unsigned_abs b) (2 ^ 24) (2 ^ 30) left right in
    rw unsigned_abs-mul (omega arith)

pub sums_bound : (g w : List ℤ) → Within (2 ^ 24) 256 g → Within (2 ^ 30) 512 w → (k n : ℕ) → k < 256 → n ≤ 256
    → unsigned_abs (sigma n (λ i. items g i *ℤ items w (i + k))) ≤ n * 2 ^ 54
sums_bound g w small factors k n below few =
    sigma_bound (λ i. items g i *ℤ items w (i + k)) (2 ^ 54) n
    (λ i less. one_bound (items g i) (items w (i + k)) (small i (omega arith)) (factors (i + k) (omega arith)))

pub nothing_added : (z w : ℤ) → z ≡ z +ℤ (pos 0 *ℤ w)
nothing_added (pos n) w = omega (arith, ints)
nothing_added (negsuc n) w = omega (arith, ints)

pub zero_is : (z : ℤ) → SFits w32 z → of_z w32 z ≡ 0 → z ≡ pos 0
zero_is z fits is = sym (to_z-of_z w32 z fits) ∙ ap (to_z w32) is
