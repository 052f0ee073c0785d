use Rattle.std.proofs.Common.{◌≡◌, ℕ, suc, ◌+◌, ◌<◌, [], ◌∷◌, slice_index, refl, ap, ◌∙◌, arith}
use Rattle.ac_base.specs.Sigma.{sum_below}
use Rattle.ac_base.proofs.ByRuns.{sum_more, sum_none}
use Rattle.ac_cost.specs.Sixths.{run_sixths, sixths_by_part}
use Rattle.ac_bound.proofs.Threes.{of_three}
use Rattle.ac_plan.specs.Totals.{others_of}
use Rattle.ac_plan.proofs.Beside.{run_of_other}
use Rattle.ac_plan.proofs.totals.all_but_low.Goals as goal

pub loop-c-init : goal.loop-c-init
loop-c-init g c =
    let v = g.C.RunCosts.offset c.args.costs.now in
    let zero : (part : ℕ) → part < 3 → slice_index (0 ∷ 0 ∷ 0 ∷ []) part ≡ 0 = of_three (λ q. slice_index (0 ∷ 0 ∷ 0 ∷ []) q ≡ 0) refl refl refl in
    record {
      value = λ part p. omega (arith, zero part p, sum_none (λ d. run_sixths v.shape v.raw v.t part d c.args.run.now));
      bound = λ part p. omega (arith, zero part p);
    }

pub run_sixths-requires : goal.run_sixths-requires
run_sixths-requires g c =
    let v = g.C.RunCosts.offset c.args.costs.now in
    let same = ap others_of c.requires.same in
    let below : c.loop-c.c < others_of v.shape = omega (arith, c.loop-c-test.true, c.others-c-end.ensures.value, same) in
    run_of_other v.shape c.loop-c.c c.args.run.now below c.requires.run

pub loop-c-preserved : goal.loop-c-preserved
loop-c-preserved g c =
    let v = g.C.RunCosts.offset c.args.costs.now in
    let i = c.loop-c in
    let run = c.args.run.now in
    let here : (part : ℕ) → part < 3 → slice_index c.run_sixths.result part ≡ run_sixths v.shape v.raw v.t part i.c run =
    λ part p. ap (λ xs. slice_index xs part) c.run_sixths.ensures.value ∙ of_three (λ q. slice_index (sixths_by_part v.shape v.raw v.t i.c run) q ≡ run_sixths v.shape v.raw v.t q i.c run) refl refl refl part p in
    let e : i.c + 1 ≡ suc i.c = omega arith in
    record {
      value = λ part p.
          let f : ℕ → ℕ = λ d. run_sixths v.shape v.raw v.t part d run in
          let step : sum_below (i.c + 1) f ≡ sum_below i.c f + f i.c = ap (λ n. sum_below n f) e ∙ sum_more i.c f in
          omega (arith, c.sums-sum.ensures part p, i.invariant.value part p, here part p, step);
      bound = λ part p. omega (arith, c.sums-sum.ensures part p, i.invariant.bound part p, c.run_sixths.ensures.bound part);
    }
