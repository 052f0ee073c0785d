use Rattle.std.proofs.Common.{◌≡◌, ℕ, ◌<◌, length}
use Rattle.ac_bound.specs.Ways.{potential}
use Rattle.ac_ways.specs.Sixteen.{ways_at}
use Rattle.ac_ways.proofs.held.pots_at.Given as goal

abbrev pub invariant-loop-c : goal.invariant-loop-c
invariant-loop-c l = record {
  done : (d part at : ℕ) → d < l.c → part < 3 → at < 6 → potential l.pots.p d part at ≡ ways_at l.ways.p l.j d part at;
  long : length l.pots.p ≡ 7;
}
