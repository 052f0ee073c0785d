use Rattle.std.proofs.Common.{◌≡◌, ◌∙◌, take, length, ap, refl, arith, ℕ}
use Rattle.ac_base.specs.Counts.{tally_of}
use Rattle.ac_mant.specs.Counts.{tally}
use Rattle.ac_mant.specs.Groups.{coded, pointers}
use Rattle.ac_packing.proofs.Costs.{counted, coded_small, counts_small, counts_most}
use Rattle.ac_packing.proofs.parts.cost.Goals as goal

pub add-requires-clause-pointer : goal.add-requires-clause-pointer
add-requires-clause-pointer c = coded_small c.args.list.now c.loop-i.i (coded 0 0) _ c.requires.coded c.loop-i-test.true refl

pub add-requires-clause-bound : goal.add-requires-clause-bound
add-requires-clause-bound c = counts_small c.loop-i.counts c.args.list.now c.loop-i.i c.loop-i.auto.i-end c.requires.few c.loop-i.invariant

pub loop-i-preserved : goal.loop-i-preserved
loop-i-preserved c = counted c.args.list.now c.loop-i.i (coded 0 0) _ (tally c.loop-i.counts) (tally c.add.new.self) c.loop-i-test.true refl c.loop-i.invariant c.add.ensures

pub exact-requires : goal.exact-requires
exact-requires c =
    let l = c.args.list.now in
    let whole : c.loop-i.i ≡ length l = omega (arith, c.loop-i-test.false, c.loop-i.auto.i-end) in
    (counts_most c.loop-i.counts l c.requires.few (c.loop-i.invariant ∙ ap (λ (k : ℕ). tally_of (pointers (take k l))) whole)).0

pub returns-clause-bound : goal.returns-clause-bound
returns-clause-bound c =
    let l = c.args.list.now in
    let whole : c.loop-i.i ≡ length l = omega (arith, c.loop-i-test.false, c.loop-i.auto.i-end) in
    omega (arith, c.exact.ensures, (counts_most c.loop-i.counts l c.requires.few (c.loop-i.invariant ∙ ap (λ (k : ℕ). tally_of (pointers (take k l))) whole)).2)
