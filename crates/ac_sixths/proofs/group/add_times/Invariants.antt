use Rattle.std.proofs.Common.{◌≡◌, ℕ, ◌+◌, ◌*◌, ◌<◌, ◌≤◌, length, slice_index}
use Rattle.ac_sixths.proofs.group.add_times.Given as goal

abbrev pub invariant-loop-j : goal.invariant-loop-j
invariant-loop-j g l = record {
  long : length l.six ≡ 16;
  done : (j : ℕ) → j < l.j → slice_index l.six j ≡ slice_index l.initial.six j + g.row.M * slice_index l.x j;
  rest : (j : ℕ) → l.j ≤ j → slice_index l.six j ≡ slice_index l.initial.six j;
}
