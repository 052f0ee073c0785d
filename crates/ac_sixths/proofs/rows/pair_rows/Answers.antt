use Rattle.std.proofs.Common.{◌≡◌, ◌≢◌, ℕ, ◌+◌, ◌<◌, List, [], length, length-set, slice_index, slice_index_or, get_or-set_other, arith, ◌∙◌}
use Rattle.ac_alloc.specs.declared.params.Params.{Params}
use Rattle.ac_alloc.proofs.Lists.{written_next}
use Rattle.ac_sixths.specs.Runs.{column, IsRun, span_sixths}
use Rattle.ac_sixths.proofs.rows.pair_rows.Goals as goal

pub pair_windows-requires-clause-levels : goal.pair_windows-requires-clause-levels
pair_windows-requires-clause-levels c = (c.requires.held c.loop-l.l (omega arith)).0

pub pair_windows-requires-clause-bases : goal.pair_windows-requires-clause-bases
pair_windows-requires-clause-bases c = (c.requires.held c.loop-l.l (omega arith)).1

pub pair_windows-requires-clause-pairs : goal.pair_windows-requires-clause-pairs
pair_windows-requires-clause-pairs c = c.requires.pairs c.loop-l.l (omega arith)

pub loop-l-preserved : goal.loop-l-preserved
loop-l-preserved c =
    let s = c.args.span.now in
    let six = c.loop-l.six in
    let l = c.loop-l.l in
    let row = c.pair_windows.result in
    let P = λ (i : ℕ) (x : List ℕ). (p : Params) (exps : List ℕ) → IsRun p s exps (slice_index_or c.args.levels.now i []) (column c.args.bases.now i) → (j : ℕ) → j < 16 → slice_index x j ≡ span_sixths p s exps (c.args.t0 + j) in
    let inside : l < length six = omega (arith, c.loop-l.invariant.long) in record {
      long = length-set six l row ∙ c.loop-l.invariant.long;
      done = written_next P [] six l row inside c.loop-l.invariant.done c.pair_windows.ensures;
      rest = λ i h. let ne : i ≢ l = omega arith in get_or-set_other six l i row [] ne ∙ c.loop-l.invariant.rest i (omega arith);
    }
