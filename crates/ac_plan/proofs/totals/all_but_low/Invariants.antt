use Rattle.std.proofs.Common.{◌≡◌, ℕ, ◌<◌, ◌≤◌, ◌*◌, ◌^◌, slice_index}
use Rattle.ac_base.specs.Sigma.{sum_below}
use Rattle.ac_cost.specs.Sixths.{run_sixths}
use Rattle.ac_plan.proofs.totals.all_but_low.Given as goal

abbrev pub invariant-loop-c : goal.invariant-loop-c
invariant-loop-c g l =
    let v = g.C.RunCosts.offset l.costs in
    record {
      value : (part : ℕ) → part < 3 → slice_index l.sum part ≡ sum_below l.c (λ c. run_sixths v.shape v.raw v.t part c l.run);
      bound : (part : ℕ) → part < 3 → slice_index l.sum part ≤ l.c * 2 ^ 19;
    }
