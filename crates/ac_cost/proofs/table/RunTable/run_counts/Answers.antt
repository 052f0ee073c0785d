use Rattle.std.proofs.Common.{ℕ, [], slice_index_or, subst, sym, ap, ◌∙◌}
use Rattle.ac_mant.specs.declared.counts.Counts.{Counts}
use Rattle.ac_mant.specs.Counts.{tally}
use Rattle.ac_cost.specs.Prices.{no_counts}
use Rattle.ac_cost.specs.Records.{AtOffset}
use Rattle.ac_cost.specs.Runs.{IsRunOf}
use Rattle.ac_cost.proofs.Counting.{run-few}
use Rattle.ac_cost.proofs.table.RunTable.run_counts.Goals as goal

pub returns-clause-bound : goal.returns-clause-bound
returns-clause-bound c =
    let s = c.self.inside in
    let at : ℕ → Counts = λ r. slice_index_or (slice_index_or s.of c.args.channel []) r no_counts in
    let P : AtOffset → Type 0 = λ v. IsRunOf v.shape c.args.channel c.args.run.now in
    let is : IsRunOf s.shape c.args.channel c.args.run.now = subst P (sym c.self.view_is) c.requires in
    let e = c.self.invariant c.args.channel is.channel c.args.run.now is in
    run-few s.shape s.raw.e s.t c.args.channel c.args.run.now (at c.row.result) (ap (λ r. tally (at r)) c.row.ensures.value ∙ e)
