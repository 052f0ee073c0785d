use Rattle.std.proofs.Common.{◌-◌, ℕ, slice_index, arith, ap, ◌∙◌, subst}
use Rattle.ac_base.specs.Allocation.{masktab_list}
use Rattle.ac_base.proofs.AllocationTables.{bands_small}
use Rattle.ac_base.proofs.SpanBounds.{span_end}
use Rattle.ac_alloc.specs.Masking.{IsLevel}
use Rattle.ac_alloc.proofs.Spans.{bands_rise}
use Rattle.ac_sixths.specs.Runs.{column, base_of, IsRun}
use Rattle.ac_sixths.proofs.Meanings.{column_at}
use Rattle.ac_sixths.proofs.Steps.{levels_shared}
use Rattle.ac_sixths.proofs.whole.run_windows.Goals as goal

pub kind_windows-requires-clause-levels : goal.kind_windows-requires-clause-levels
kind_windows-requires-clause-levels c = λ (k : ℕ) l m. omega (arith, c.levels.ensures k l m)

pub kind_windows-requires-clause-bases : goal.kind_windows-requires-clause-bases
kind_windows-requires-clause-bases c = λ (b : ℕ) l. omega (arith, c.bases.ensures.column b l, column_at c.bases.new.out 0 b)

pub levels-requires-clause-exps : goal.levels-requires-clause-exps
levels-requires-clause-exps c = λ (k : ℕ) l m. c.requires.exps.small k (l, m)

pub kind_windows-requires-clause-shared : goal.kind_windows-requires-clause-shared
kind_windows-requires-clause-shared c =
    levels_shared c.args.kind c.args.span.now c.args.exps.now c.levels.new.out c.requires.span c.requires.kind c.requires.exps.constant c.levels.ensures

pub returns : goal.returns
returns c = λ (j : ℕ) h.
    let s = c.args.span.now in
    let p = c.args.p.now in
    let exps = c.args.exps.now in
    let last = span_end s c.requires.span in
    let run : IsRun p s exps c.levels.new.out (column c.bases.new.out 0) = (
      c.requires.floor,
      λ k l m. (c.requires.exps.small k (l, m), c.levels.ensures k l m),
      λ k l m. let b = slice_index masktab_list k in let e = c.of-mask.ensures.masks b (bands_rise s.start k l (omega arith)) (bands_rise k (s.end - 1) (omega arith) (omega arith)) in (subst IsLevel e (c.of-mask.ensures.bound.0 b), column_at c.bases.new.out 0 b ∙ c.bases.ensures.column b (omega (arith, bands_small k (omega arith))) ∙ ap base_of e),
    ) in
    c.kind_windows.ensures p exps run j h
