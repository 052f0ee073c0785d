use Rattle.std.proofs.Common.{◌≡◌, ◌+◌, ◌*ℤ◌, length}
use Rattle.ac_base.specs.Sigma.{Lists, sigma}
use Rattle.ac_convolution.specs.Negacyclic.{items}
use Rattle.ac_convolution.proofs.sparse.add_places.Given as goal

abbrev pub invariant-loop-i : goal.invariant-loop-i
invariant-loop-i l = Lists 256 (λ k. sigma l.i (λ i. items l.g i *ℤ items l.factors (i + k))) l.total
