use Rattle.std.proofs.Common.{◌≡◌, ◌+◌, ◌<◌, ℕ, slice_index, slice_index_or, subst, sym}
use Rattle.ac_cost.specs.Records.{Exponents}
use Rattle.ac_cost.specs.Runs.{IsRunOf}
use Rattle.ac_windows.specs.Seen.{no_rows}
use Rattle.ac_windows.specs.Windows.{block_sixths}
use Rattle.ac_windows.proofs.Meeting.{row_held, run_meets}
use Rattle.ac_windows.proofs.held.RunRows.run_window.Goals as goal

pub kind_windows-requires-clause-levels : goal.kind_windows-requires-clause-levels
kind_windows-requires-clause-levels c =
    let s = c.self.inside in
    let rows = slice_index_or s.of c.args.channel no_rows in
    let P : Exponents → Type 0 = λ v. IsRunOf v.shape c.args.channel c.args.run.now in
    let is : IsRunOf s.shape c.args.channel c.args.run.now = subst P (sym c.self.view_is) c.requires.run in
    (row_held s.shape s.raw.e c.args.channel c.args.run.now c.row-at.result c.span-span.result rows.levels rows.bases (c.self.invariant.held c.args.channel is.channel) is c.row-at.ensures.value c.span-span.ensures.value).0

pub kind_windows-requires-clause-bases : goal.kind_windows-requires-clause-bases
kind_windows-requires-clause-bases c =
    let s = c.self.inside in
    let rows = slice_index_or s.of c.args.channel no_rows in
    let P : Exponents → Type 0 = λ v. IsRunOf v.shape c.args.channel c.args.run.now in
    let is : IsRunOf s.shape c.args.channel c.args.run.now = subst P (sym c.self.view_is) c.requires.run in
    (row_held s.shape s.raw.e c.args.channel c.args.run.now c.row-at.result c.span-span.result rows.levels rows.bases (c.self.invariant.held c.args.channel is.channel) is c.row-at.ensures.value c.span-span.ensures.value).1

pub kind_windows-requires-clause-shared : goal.kind_windows-requires-clause-shared
kind_windows-requires-clause-shared c =
    let s = c.self.inside in
    let rows = slice_index_or s.of c.args.channel no_rows in
    let P : Exponents → Type 0 = λ v. IsRunOf v.shape c.args.channel c.args.run.now in
    let is : IsRunOf s.shape c.args.channel c.args.run.now = subst P (sym c.self.view_is) c.requires.run in
    (row_held s.shape s.raw.e c.args.channel c.args.run.now c.row-at.result c.span-span.result rows.levels rows.bases (c.self.invariant.held c.args.channel is.channel) is c.row-at.ensures.value c.span-span.ensures.value).2

pub returns : goal.returns
returns c =
    let s = c.self.inside in
    let rows = slice_index_or s.of c.args.channel no_rows in
    let P : Exponents → Type 0 = λ v. IsRunOf v.shape c.args.channel c.args.run.now in
    let is : IsRunOf s.shape c.args.channel c.args.run.now = subst P (sym c.self.view_is) c.requires.run in
    let Q : Exponents → Type 0 = λ v. (j : ℕ) → j < 16 → slice_index c.kind_windows.result j ≡ block_sixths v.shape v.raw (c.args.t0 + j) c.args.channel c.args.run.now in
    record { value = subst Q c.self.view_is (run_meets s.shape s.raw.e c.args.t0 c.args.channel c.args.run.now c.row-at.result c.span-span.result rows.levels rows.bases c.kind_windows.result (c.self.invariant.held c.args.channel is.channel) is c.row-at.ensures.value c.span-span.ensures.value c.kind_windows.ensures) }
