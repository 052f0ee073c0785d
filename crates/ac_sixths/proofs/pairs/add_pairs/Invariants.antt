use Rattle.std.proofs.Common.{◌≡◌, ℕ, ◌+◌, ◌<◌, length, slice_index}
use Rattle.ac_sixths.specs.Runs.{total_from, piece_at}
use Rattle.ac_sixths.proofs.pairs.add_pairs.Given as goal

abbrev pub invariant-loop-i : goal.invariant-loop-i
invariant-loop-i g l = record {
  long : length l.x ≡ 16;
  so_far : (j : ℕ) → j < 16 → slice_index l.x j ≡ slice_index l.initial.x j + total_from (piece_at l.f l.pairs (l.base + j) l.a 2) 0 l.i;
}
