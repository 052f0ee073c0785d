use Rattle.std.proofs.Common.{◌≡◌, ◌≤◌, ◌*◌}
use Rattle.ac_base.specs.Fit.{exponents_in}
use Rattle.ac_expo.specs.Raw.{channel_span}
use Rattle.ac_cost.proofs.parts.block_exponents.Given as goal

abbrev pub invariant-loop-c : goal.invariant-loop-c
invariant-loop-c l = record {
  value : l.bits ≡ exponents_in (channel_span l.shape) l.c l.codes l.block;
  bound : l.bits ≤ 600 * l.c;
}
