use Rattle.std.proofs.Common.{◌≡◌, ℕ, ◌+◌, ◌<◌, ◌≤◌, length, slice_index}
use Rattle.ac_sixths.proofs.window.add_all.Given as goal

abbrev pub invariant-loop-j : goal.invariant-loop-j
invariant-loop-j l = record {
  long : length l.x ≡ 16;
  done : (j : ℕ) → j < l.j → slice_index l.x j ≡ slice_index l.initial.x j + slice_index l.f (l.i + j);
  rest : (j : ℕ) → l.j ≤ j → slice_index l.x j ≡ slice_index l.initial.x j;
}
