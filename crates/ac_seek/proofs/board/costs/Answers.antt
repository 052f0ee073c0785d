use Rattle.std.proofs.Common.{◌<◌, ◌≤◌, ◌^◌, ℕ, List, [], length, length-set, slice_index, refl, ap, ◌∙◌, inl, inr, arith}
use Rattle.std.proofs.lemmas.Bool.{cases_lt}
use Rattle.ac_expo.specs.Raw.{channels}
use Rattle.ac_cost.proofs.Listing.{set_each, set_more}
use Rattle.ac_seek.specs.Boards.{HasCost}
use Rattle.ac_seek.proofs.Places.{row_zero, place-inside}
use Rattle.ac_seek.proofs.board.costs.Goals as goal

pub loop-place-init : goal.loop-place-init
loop-place-init g c = record { value = λ place l. absurd (omega arith); small = row_zero; long = refl }

pub loop-place-preserved : goal.loop-place-preserved
loop-place-preserved g c =
    let i = c.loop-place in
    let P : ℕ → List ℕ → Type 0 = HasCost (g.C.RunCosts.offset c.args.table.now) in
    let Q : ℕ → List ℕ → Type 0 = λ place row. (part : ℕ) → slice_index row part ≤ 2 ^ 19 in
    let inside : i.place < length i.costs = omega (arith, i.invariant.long, c.loop-place-test.true, c.coded.ensures.bound) in
    record {
      value = set_more P i.costs i.place c.cost.result [] inside i.invariant.value c.cost.ensures.value;
      small = set_each Q i.costs i.place c.cost.result [] inside (λ j ne. i.invariant.small j) c.cost.ensures.small;
      long = length-set i.costs i.place c.cost.result ∙ i.invariant.long;
    }

pub returns-clause-value : goal.returns-clause-value
returns-clause-value g c = λ place l.
    let v = g.C.RunCosts.offset c.args.table.now in
    let same = ap channels c.requires in
    elim (cases_lt place c.loop-place.place) [
      | inl less ↦ c.loop-place.invariant.value place less
      | inr more ↦ λ s part is p e.
          absurd (omega (arith, place-inside v.shape s place is e, more, same, c.coded.ensures.value, c.loop-place-test.false))
    ]
