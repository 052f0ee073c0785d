use Rattle.std.proofs.Common.{◌≡◌, ℕ, ◌+◌, ◌-◌, ◌*◌, ◌^◌, ◌<◌, ◌≤◌, List, length}
use Rattle.ac_cost.specs.Records.{at_offset}
use Rattle.ac_bound.specs.Ways.{IsLeastFrom}
use Rattle.ac_windows.specs.Windows.{IsWindow}
use Rattle.ac_ways.specs.Sixteen.{ways_at}
use Rattle.ac_ways.proofs.filled.ways.Given as goal

abbrev pub invariant-loop-c : goal.invariant-loop-c
invariant-loop-c l = record {
  long : length l.out.p ≡ 7;
  value : (raw : List (List (List ℕ))) (t0 : ℕ) → IsWindow l.shape raw t0 l.window.six → (d part at j : ℕ) → d < l.c → part < 3 → at ≤ 6
      → j < 16 → IsLeastFrom (at_offset l.shape raw (t0 + j)) d part at (ways_at l.out.p j d part at);
  bound : (d part at j : ℕ) → d < l.c → part < 3 → at ≤ 6 → j < 16 → ways_at l.out.p j d part at ≤ (6 - at) * 2 ^ 19;
}
