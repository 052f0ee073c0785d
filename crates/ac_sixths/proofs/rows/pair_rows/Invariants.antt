use Rattle.std.proofs.Common.{◌≡◌, ℕ, ◌+◌, ◌<◌, ◌≤◌, List, [], length, slice_index, slice_index_or}
use Rattle.ac_alloc.specs.declared.params.Params.{Params}
use Rattle.ac_sixths.specs.Runs.{column, IsRun, span_sixths}
use Rattle.ac_sixths.proofs.rows.pair_rows.Given as goal

abbrev pub invariant-loop-l : goal.invariant-loop-l
invariant-loop-l l = record {
  long : length l.six ≡ 63;
  done : (i : ℕ) → i < l.l → (p : Params) (exps : List ℕ) → IsRun p l.span exps (slice_index_or l.levels i []) (column l.bases i) → (j : ℕ) → j < 16 → slice_index (slice_index_or l.six i []) j ≡ span_sixths p l.span exps (l.t0 + j);
  rest : (i : ℕ) → l.l ≤ i → slice_index_or l.six i [] ≡ slice_index_or l.initial.six i [];
}
