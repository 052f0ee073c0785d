use Rattle.std.proofs.Common.{◌≡◌, ◌≤◌, ◌+◌, ◌+ℤ◌, ◌*ℤ◌, ℕ, length}
use Rattle.ac_base.specs.Sigma.{Lists}
use Rattle.ac_convolution.specs.Negacyclic.{items}
use Rattle.ac_convolution.proofs.sparse.add_products.Given as goal

abbrev pub invariant-loop-k : goal.invariant-loop-k
invariant-loop-k l =
    (length l.total ≡ 256)
    × Lists l.k (λ k. items l.fn.total k +ℤ (l.factor *ℤ items l.factors (l.from + k))) l.total
    × ((j : ℕ) → l.k ≤ j → items l.total j ≡ items l.fn.total j)
