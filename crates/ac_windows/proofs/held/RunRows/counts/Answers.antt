use Rattle.std.proofs.Common.{◌≡◌, slice_index_or, subst, sym, ◌∙◌, arith}
use Rattle.ac_mant.specs.Counts.{tally}
use Rattle.ac_cost.specs.Pointers.{run_tally}
use Rattle.ac_cost.specs.Records.{Exponents}
use Rattle.ac_cost.specs.Runs.{IsRunOf}
use Rattle.ac_cost.proofs.Counting.{run-few}
use Rattle.ac_windows.specs.Seen.{no_rows}
use Rattle.ac_windows.proofs.Meeting.{silent_tally, tally_meets}
use Rattle.ac_windows.proofs.held.RunRows.counts.Goals as goal

pub returns-then-t-eq0-clause-value : goal.returns-then-t-eq0-clause-value
returns-then-t-eq0-clause-value c =
    let s = c.args.self.now in sym (silent_tally s.shape s.raw c.args.t c.args.channel c.args.run.now c.if-t-eq0.true)

pub returns-clause-value : goal.returns-clause-value
returns-clause-value c =
    let s = c.self.inside in
    let rows = slice_index_or s.of c.args.channel no_rows in
    let P : Exponents → Type 0 = λ v. IsRunOf v.shape c.args.channel c.args.run.now in
    let Q : Exponents → Type 0 = λ v. tally c.count_row.result ≡ run_tally v.shape v.raw c.args.t c.args.channel c.args.run.now in
    let is : IsRunOf s.shape c.args.channel c.args.run.now = subst P (sym c.self.view_is) c.requires.run in
    let met = tally_meets s.shape s.raw.e c.args.t c.args.channel c.args.run.now c.row-at.result c.span.result rows.levels rows.bases (c.self.invariant.held c.args.channel is.channel) is c.row-at.ensures.value c.span.ensures.value (omega (arith, c.if-t-eq0.false)) c.requires.t in
    subst Q c.self.view_is (c.count_row.ensures ∙ met)

pub returns-clause-bound : goal.returns-clause-bound
returns-clause-bound c =
    let s = c.args.self.now in
    run-few s.shape s.raw c.args.t c.args.channel c.args.run.now c.count_row.result (returns-clause-value c)
