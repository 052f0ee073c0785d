use Rattle.std.proofs.Common.{◌≡◌, ◌<◌, ℕ, List, [], length, length-set, slice_index, refl, ap, ◌∙◌, subst, arith}
use Rattle.ac_base.specs.declared.runs.Run.{Run}
use Rattle.ac_cost.specs.Rows.{row_of}
use Rattle.ac_cost.proofs.Listing.{set_more, run_back}
use Rattle.ac_plan.specs.Totals.{beside_sixths}
use Rattle.ac_plan.proofs.Beside.{HasTotal, row_few}
use Rattle.ac_plan.proofs.totals.totals.Goals as goal

pub loop-i-init : goal.loop-i-init
loop-i-init g c = record { value = λ row l. absurd (omega (arith, l)); long = refl }

pub loop-i-preserved : goal.loop-i-preserved
loop-i-preserved g c =
    let i = c.loop-i in
    let v = g.C.RunCosts.offset c.args.costs.now in
    let P : ℕ → List ℕ → Type 0 = HasTotal v in
    let inside : i.i < length i.totals = omega (arith, i.invariant.long, c.loop-i-test.true) in
    let new : HasTotal v i.i c.total.result = λ part p. (subst (λ (r : Run). slice_index c.total.result part ≡ beside_sixths v part r) c.run_at.ensures.value (c.total.ensures.value part p), c.total.ensures.bound part p) in
    record {
      value = set_more P i.totals i.i c.total.result [] inside i.invariant.value new;
      long = length-set i.totals i.i c.total.result ∙ i.invariant.long;
    }

pub returns-clause-value : goal.returns-clause-value
returns-clause-value g c = λ run part is p.
    let v = g.C.RunCosts.offset c.args.costs.now in
    let here = c.loop-i.invariant.value (row_of run) (omega (arith, row_few v.shape run is, c.loop-i-test.false)) part p in
    here.0 ∙ ap (beside_sixths v part) (run_back run is)

pub returns-clause-few : goal.returns-clause-few
returns-clause-few g c = λ row part l p. (c.loop-i.invariant.value row (omega (arith, l, c.loop-i-test.false)) part p).1
