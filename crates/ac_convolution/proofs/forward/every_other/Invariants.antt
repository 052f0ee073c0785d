use Rattle.std.proofs.Common.{◌+◌, ◌*◌, ◌%◌}
use Rattle.ac_base.specs.Sigma.{Lists, sigma}
use Rattle.ac_convolution.specs.Negacyclic.{items}
use Rattle.ac_convolution.specs.Rows.{row}
use Rattle.ac_convolution.proofs.forward.every_other.Given as goal

abbrev pub invariant-loop-q : goal.invariant-loop-q
invariant-loop-q l = Lists 16 (λ s. sigma l.q (λ q. items (row l.rows (2 * q + l.from)) (l.e * (2 * q + l.from) % 32 + s))) l.total
