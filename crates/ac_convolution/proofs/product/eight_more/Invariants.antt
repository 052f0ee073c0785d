use Rattle.std.proofs.Common.{◌+◌, ◌+ℤ◌, ◌*ℤ◌}
use Rattle.ac_base.specs.Sigma.{Lists, sigma}
use Rattle.ac_convolution.specs.Negacyclic.{items}
use Rattle.ac_convolution.proofs.product.eight_more.Given as goal

abbrev pub invariant-loop-s : goal.invariant-loop-s
invariant-loop-s l = Lists 8 (λ k. items l.start k +ℤ sigma l.s (λ s. items l.parts (l.at + s) *ℤ items l.kernel (l.from + s + k))) l.total
