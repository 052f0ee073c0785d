use Rattle.std.proofs.Common.{◌≡◌, ◌<◌, ◌≤◌, ◌^◌, ℕ, slice_index, length}
use Rattle.ac_cost.specs.Blocks.{exponents_at}
use Rattle.ac_cost.proofs.parts.exponents.Given as goal

abbrev pub invariant-loop-block : goal.invariant-loop-block
invariant-loop-block l = record {
  value : (b : ℕ) → b < l.block → slice_index l.bits b ≡ exponents_at l.shape l.codes b;
  bound : (b : ℕ) → slice_index l.bits b ≤ 2 ^ 16;
  long : length l.bits ≡ 6;
}
