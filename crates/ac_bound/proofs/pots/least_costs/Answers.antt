use Rattle.std.proofs.Common.{◌≡◌, ◌+◌, ◌-◌, subst, sym, slice_set, arith}
use Rattle.ac_bound.proofs.Onward.{IsKnownFrom, known-none, known-more}
use Rattle.ac_bound.proofs.pots.least_costs.Goals as goal

pub loop-at-init : goal.loop-at-init
loop-at-init c = known-none c.args.table.now c.args.c

pub loop-at-preserved : goal.loop-at-preserved
loop-at-preserved c =
    let at = c.loop-at.at - 1 in
    let e : at + 1 ≡ c.loop-at.at = omega arith in
    let so = subst (λ k. IsKnownFrom c.args.table.now c.args.c k c.loop-at.rows) (sym e) c.loop-at.invariant in
    let place : c.from.result ≡ at = omega arith in
    subst (λ k. IsKnownFrom c.args.table.now c.args.c at (slice_set c.loop-at.rows k c.least_at.result)) (sym place)
    (known-more c.args.table.now c.args.c at c.loop-at.rows c.least_at.result (omega arith) so c.least_at.ensures.value c.least_at.ensures.bound)
