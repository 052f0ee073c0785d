use Rattle.std.proofs.Common.{◌≡◌, ℕ, ◌+◌, ◌<◌, List, [], length, length-set, slice_index, slice_index_or, arith, ◌∙◌, inl, inr}
use Rattle.ac_alloc.specs.declared.params.Params.{Params}
use Rattle.ac_alloc.proofs.Lists.{written_more, kept_more}
use Rattle.ac_sixths.specs.Runs.{column, IsRun, span_sixths}
use Rattle.ac_sixths.proofs.rows.row_windows.Goals as goal

pub kind_windows-requires-clause-levels : goal.kind_windows-requires-clause-levels
kind_windows-requires-clause-levels c = (c.requires.held c.loop-l.l (omega arith) (omega arith)).0

pub kind_windows-requires-clause-bases : goal.kind_windows-requires-clause-bases
kind_windows-requires-clause-bases c = (c.requires.held c.loop-l.l (omega arith) (omega arith)).1

pub kind_windows-requires-clause-shared : goal.kind_windows-requires-clause-shared
kind_windows-requires-clause-shared c = (c.requires.held c.loop-l.l (omega arith) (omega arith)).2

pub loop-l-preserved : goal.loop-l-preserved
loop-l-preserved c =
    let s = c.args.span.now in
    let six = c.loop-l.six in
    let l = c.loop-l.l in
    let row = c.kind_windows.result in
    let P = λ (i : ℕ) (x : List ℕ). (p : Params) (exps : List ℕ) → IsRun p s exps (slice_index_or c.args.levels.now i []) (column c.args.bases.now i) → (j : ℕ) → j < 16 → slice_index x j ≡ span_sixths p s exps (c.args.t0 + j) in
    let inside : l < length six = omega (arith, c.loop-l.invariant.long) in record {
      long = length-set six l row ∙ c.loop-l.invariant.long;
      done = written_more P [] six c.args.from l row inside c.loop-l.invariant.done c.kind_windows.ensures;
      rest = kept_more [] six c.args.six.now c.args.from l row (omega arith) c.loop-l.invariant.rest;
    }

pub returns-clause-rest : goal.returns-clause-rest
returns-clause-rest c = λ (l : ℕ) h.
    elim h [ inl a ↦ c.loop-l.invariant.rest l (inl a) | inr b ↦ c.loop-l.invariant.rest l (inr (omega arith)) ]
