use Rattle.std.proofs.Common.{◌≡◌, ◌<◌, ℕ, length, slice_index_or}
use Rattle.ac_windows.specs.Held.{IsHeld}
use Rattle.ac_windows.specs.Seen.{no_rows}
use Rattle.ac_windows.proofs.held.hold_channels.Given as goal

abbrev pub invariant-loop-c : goal.invariant-loop-c
invariant-loop-c l = record {
  done : (c : ℕ) → c < l.c → IsHeld l.shape l.raw.e c (slice_index_or l.out c no_rows).levels (slice_index_or l.out c no_rows).bases;
  long : length l.out ≡ 7;
}
