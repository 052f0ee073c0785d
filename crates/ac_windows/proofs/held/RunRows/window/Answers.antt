use Rattle.std.proofs.Common.{◌≡◌, ◌<◌, ◌+◌, ◌/◌, ℕ, List, [], length, slice_index, slice_index_or, subst, sym, ap, ◌∙◌, arith, length-set}
use Rattle.ac_base.specs.declared.runs.Run.{Run}
use Rattle.ac_base.specs.declared.spans.Span.{Span}
use Rattle.ac_expo.specs.Raw.{channels}
use Rattle.ac_cost.specs.Records.{Exponents}
use Rattle.ac_cost.specs.Rows.{row_of, rows_of}
use Rattle.ac_cost.specs.Runs.{IsRunOf}
use Rattle.ac_cost.proofs.Listing.{set_more}
use Rattle.ac_sixths.specs.Runs.{column, AreHeld}
use Rattle.ac_windows.specs.Seen.{no_rows}
use Rattle.ac_windows.specs.Windows.{block_sixths}
use Rattle.ac_windows.proofs.Meeting.{row_meets_at}
use Rattle.ac_windows.proofs.held.RunRows.window.Goals as goal

pub row_windows-requires-clause-held : goal.row_windows-requires-clause-held
row_windows-requires-clause-held c = λ (l : ℕ) _ m.
    let s = c.self.inside in
    let d = c.loop-c.c in
    let rows = slice_index_or s.of d no_rows in
    let below : d < channels s.shape = omega (arith, c.coded-c-end.ensures.value, c.loop-c-test.true) in
    let count = c.row_count.ensures.value ∙ ap (λ (x : Span). rows_of x.lead) c.span-span.ensures.value in
    subst (λ (x : Span). AreHeld (l / 21 + 1) x (slice_index_or rows.levels l []) (column rows.bases l)) (sym c.span-span.ensures.value)
    (c.self.invariant.held d below l (omega (arith, m, count))).small

pub loop-c-preserved : goal.loop-c-preserved
loop-c-preserved c =
    let s = c.self.inside in
    let i = c.loop-c in
    let rows = slice_index_or s.of i.c no_rows in
    let P : ℕ → List (List ℕ) → Type 0 = λ d x. (run : Run) (j : ℕ) → IsRunOf c.args.self.now.shape d run → j < 16 → slice_index (slice_index_or x (row_of run) []) j ≡ block_sixths c.args.self.now.shape c.args.self.now.raw (c.args.t0 + j) d run in
    let Q : Exponents → Type 0 = λ v. (run : Run) (j : ℕ) → IsRunOf v.shape i.c run → j < 16 → slice_index (slice_index_or c.row_windows.new.six (row_of run) []) j ≡ block_sixths v.shape v.raw (c.args.t0 + j) i.c run in
    let below : i.c < channels s.shape = omega (arith, c.coded-c-end.ensures.value, c.loop-c-test.true) in
    let count = c.row_count.ensures.value ∙ ap (λ (x : Span). rows_of x.lead) c.span-span.ensures.value in
    let inside : i.c < length i.out.six = omega (arith, c.coded-c-end.ensures.bound, i.invariant.long, c.loop-c-test.true) in
    let new : P i.c c.row_windows.new.six = subst Q c.self.view_is (row_meets_at s.shape s.raw.e c.args.t0 i.c c.span-span.result c.row_count.result rows.levels rows.bases c.row_windows.new.six c.span-span.ensures.value count (c.self.invariant.held i.c below) c.row_windows.ensures.rows) in
    record {
      long = length-set i.out.six i.c c.row_windows.new.six ∙ i.invariant.long;
      done = set_more P i.out.six i.c c.row_windows.new.six [] inside i.invariant.done new;
    }
