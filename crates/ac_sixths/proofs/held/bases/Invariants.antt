use Rattle.std.proofs.Common.{◌≡◌, ◌≢◌, ◌<◌, ℕ, pos, [], slice_index, slice_index_or, length}
use Rattle.ac_sixths.specs.Runs.{base_of}
use Rattle.ac_sixths.proofs.held.bases.Given as goal

abbrev pub invariant-loop-b : goal.invariant-loop-b
invariant-loop-b l = record {
  long : length l.out ≡ 50;
  done : (b : ℕ) → b < l.b → slice_index (slice_index_or l.out b []) l.row ≡ base_of (slice_index_or l.mask.m b (pos 0));
  rest : (i : ℕ) → i ≢ l.row → (b : ℕ) → slice_index (slice_index_or l.out b []) i ≡ slice_index (slice_index_or l.initial.out b []) i;
}
