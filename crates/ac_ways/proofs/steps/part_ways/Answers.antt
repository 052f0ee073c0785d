use Rattle.std.proofs.Common.{◌≡◌, ◌+◌, ◌-◌, subst, sym, slice_set, arith}
use Rattle.ac_ways.proofs.Boundaries.{IsKnownFrom, known-none, known-more}
use Rattle.ac_ways.proofs.steps.part_ways.Goals as goal

pub loop-at-init : goal.loop-at-init
loop-at-init c = known-none c.args.kinds.now c.args.rows.now c.args.part c.args.out.now c.told-out

pub loop-at-preserved : goal.loop-at-preserved
loop-at-preserved c =
    let kinds = c.args.kinds.now in
    let rows = c.args.rows.now in
    let part = c.args.part in
    let at = c.loop-at.at - 1 in
    let e : at + 1 ≡ c.loop-at.at = omega arith in
    let so = subst (λ k. IsKnownFrom kinds rows part k c.loop-at.out) (sym e) c.loop-at.invariant in
    let place : c.from.result ≡ at = omega arith in
    subst (λ k. IsKnownFrom kinds rows part at (slice_set c.loop-at.out k c.least_at.result)) (sym place)
    (known-more kinds rows part at c.loop-at.out c.least_at.result (omega arith) so c.least_at.ensures.value c.least_at.ensures.bound)
