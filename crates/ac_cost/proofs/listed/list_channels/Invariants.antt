use Rattle.std.proofs.Common.{◌≡◌, ◌<◌, ℕ, [], length, slice_index_or}
use Rattle.ac_cost.specs.Lists.{AreListed}
use Rattle.ac_cost.proofs.listed.list_channels.Given as goal

abbrev pub invariant-loop-c : goal.invariant-loop-c
invariant-loop-c l = record {
  done : (c : ℕ) → c < l.c → AreListed l.shape l.raw.e c (slice_index_or l.out c []);
  long : length l.out ≡ 7;
}
