use Rattle.std.proofs.Common.{◌≡◌, ◌≤◌, ◌*◌}
use Rattle.ac_base.specs.Fit.{exponents_in}
use Rattle.ac_expo.specs.Raw.{channel_span}
use Rattle.ac_packing.proofs.parts.block_exponents.Given as goal

abbrev pub invariant-loop-c : goal.invariant-loop-c
invariant-loop-c l = (l.sum ≡ exponents_in (channel_span l.q.shape) l.c l.q.assign.w l.b) × (l.sum ≤ 600 * l.c)
