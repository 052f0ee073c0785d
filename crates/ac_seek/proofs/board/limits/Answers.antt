use Rattle.std.proofs.Common.{◌<◌, ℕ, List, [], length, length-set, refl, ◌∙◌, arith}
use Rattle.ac_bound.specs.Ways.{potential}
use Rattle.ac_cost.proofs.Listing.{set_more}
use Rattle.ac_seek.specs.Boards.{HasLimit}
use Rattle.ac_seek.proofs.board.limits.Goals as goal

pub loop-place-init : goal.loop-place-init
loop-place-init c = record { value = λ place l. absurd (omega arith); long = refl }

pub loop-place-preserved : goal.loop-place-preserved
loop-place-preserved c =
    let i = c.loop-place in
    let P : ℕ → List ℕ → Type 0 = HasLimit c.args.shape.now (potential c.args.pots.now.p) in
    let inside : i.place < length i.limits = omega (arith, i.invariant.long, c.loop-place-test.true, c.coded.ensures.bound) in
    record {
      value = set_more P i.limits i.place c.limit.result [] inside i.invariant.value c.limit.ensures.value;
      long = length-set i.limits i.place c.limit.result ∙ i.invariant.long;
    }

pub returns : goal.returns
returns c = λ place l. c.loop-place.invariant.value place (omega (arith, l, c.coded.ensures.value, c.loop-place-test.false))
