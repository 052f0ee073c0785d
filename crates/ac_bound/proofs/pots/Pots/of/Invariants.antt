use Rattle.std.proofs.Common.{◌≡◌, ℕ, ◌<◌, ◌≤◌, length}
use Rattle.ac_bound.specs.Ways.{IsLeastFrom, potential}
use Rattle.ac_bound.proofs.pots.Pots.of.Given as goal

abbrev pub invariant-loop-c : goal.invariant-loop-c
invariant-loop-c l = record {
  done : (c part at : ℕ) → c < l.c → part < 3 → at ≤ 6 → IsLeastFrom l.table c part at (potential l.pots.p c part at);
  rest : (c part at : ℕ) → l.c ≤ c → c < 7 → part < 3 → potential l.pots.p c part at ≡ 0;
  long : length l.pots.p ≡ 7;
}
