use Rattle.std.proofs.Common.{◌≡◌, ◌<◌, ℕ, [], length, slice_index_or}
use Rattle.std.specs.Prelude.{slice_range}
use Rattle.ac_enc.proofs.state.keep.Given as goal

abbrev pub invariant-loop-c : goal.invariant-loop-c
invariant-loop-c l = record {
  long : length l.last ≡ 6;
  kept : (c : ℕ) → c < l.c → slice_index_or l.last c [] ≡ slice_range (slice_index_or l.rows c []) 1280 1536;
}
