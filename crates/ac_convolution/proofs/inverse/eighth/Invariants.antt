use Rattle.std.proofs.Common.{◌+◌, ◌*◌, ◌%◌}
use Rattle.ac_base.specs.Sigma.{Lists, sigma}
use Rattle.ac_convolution.specs.Negacyclic.{items}
use Rattle.ac_convolution.specs.Rows.{row}
use Rattle.ac_convolution.proofs.inverse.eighth.Given as goal

abbrev pub invariant-loop-e : goal.invariant-loop-e
invariant-loop-e l = Lists 16 (λ k. sigma l.e (λ e. items (row l.x (8 * (l.i % 4) + e)) (31 * (e * l.i) % 32 + k))) l.total
