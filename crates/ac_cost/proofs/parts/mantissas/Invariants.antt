use Rattle.std.proofs.Common.{◌≡◌, ◌<◌, ◌≤◌, ◌^◌, ℕ, slice_index, length}
use Rattle.ac_cost.specs.Blocks.{mantissas_at}
use Rattle.ac_cost.proofs.parts.mantissas.Given as goal

abbrev pub invariant-loop-block : goal.invariant-loop-block
invariant-loop-block g l = record {
  value : (b : ℕ) → b < l.block → slice_index l.bits b ≡ mantissas_at (g.C.RunCosts.offset l.costs) l.a.w b;
  bound : (b : ℕ) → slice_index l.bits b ≤ 2 ^ 16;
  long : length l.bits ≡ 6;
}
