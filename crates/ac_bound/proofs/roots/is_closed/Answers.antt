use Rattle.std.proofs.Common.{subst}
use Rattle.ac_base.specs.declared.shapes.Shape.{Shape}
use Rattle.ac_cost.specs.Records.{at_offset}
use Rattle.ac_bound.specs.Ways.{ArePots, potential}
use Rattle.ac_bound.proofs.Offsets.{closed_by, over_by}
use Rattle.ac_bound.proofs.roots.is_closed.Goals as goal

pub returns : goal.returns
returns c =
    let v = c.args.table.now in
    let shape = c.args.shape.now in
    let pot = potential c.of-pots.result.p in
    let are = subst (λ (s : Shape). ArePots (at_offset s v.raw v.t) pot) c.requires c.of-pots.ensures.value in
    record {
      value = (
        λ h. closed_by shape v.raw v.t pot c.lower.result are c.lower.ensures.value (c.is_over.ensures.value.0 h),
        λ h. c.is_over.ensures.value.1 (over_by shape v.raw v.t pot c.lower.result are c.lower.ensures.value h),
      );
    }
