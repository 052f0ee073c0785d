use Rattle.std.proofs.Common.{◌+◌, ◌-◌, ◌/◌, refl, subst, arith}
use Rattle.ac_cost.specs.Parts.{cheapest_assign}
use Rattle.ac_cost.specs.Records.{AtOffset}
use Rattle.ac_bound.specs.Roots.{IsClosed, IsRoot}
use Rattle.ac_bound.proofs.Offsets.{fits_open, cheapest_is, closed_stays, below_root}
use Rattle.ac_bound.proofs.roots.root.Goals as goal

pub loop-high-init : goal.loop-high-init
loop-high-init c =
    let shape = c.args.shape.now in
    record {
      order = omega arith;
      within = omega arith;
      is_open = fits_open shape c.args.lists.now.raw 0 (cheapest_assign shape) (cheapest_is shape) c.requires.cheapest;
      above = λ t l m. absurd (omega arith);
    }

pub loop-high-preserved-then-is_closed : goal.loop-high-preserved-then-is_closed
loop-high-preserved-then-is_closed c =
    let shape = c.args.shape.now in
    let raw = c.args.lists.now.raw in
    let so = c.loop-high.invariant in
    let low = c.loop-high.low in
    let middle = low + (c.loop-high.high - low) / 2 in
    let closed : IsClosed shape raw middle = subst (λ (v : AtOffset). IsClosed shape v.raw v.t) c.at.ensures.value (c.if-is_closed.ensures.value.0 refl) in
    record {
      order = omega (arith, c.loop-high-test.true);
      within = omega (arith, so.within, so.order);
      is_open = so.is_open;
      above = λ t l m. closed_stays shape raw middle t l closed;
    }

pub returns : goal.returns
returns c =
    let shape = c.args.shape.now in
    let raw = c.args.lists.now.raw in
    let so = c.loop-high.invariant in
    let root : IsRoot shape raw c.loop-high.low = record {
      within = omega (arith, so.order, so.within);
      is_open = so.is_open;
      above = λ t l m. so.above t (omega (arith, c.loop-high-test.false)) m;
    } in
    record { value = root; feasible = λ t top f. below_root shape raw c.loop-high.low t root top f }
