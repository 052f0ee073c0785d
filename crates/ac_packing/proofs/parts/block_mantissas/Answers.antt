use Rattle.std.proofs.Common.{List, sym, subst, ◌∙◌}
use Rattle.ac_mant.specs.declared.coded.Coded.{Coded}
use Rattle.ac_mant.specs.Groups.{AreCoded}
use Rattle.ac_sent.proofs.HeldPointers.{mantissas_coded}
use Rattle.ac_packing.proofs.Costs.{mantissas_are}
use Rattle.ac_packing.proofs.parts.block_mantissas.Goals as goal

pub listed-requires-clause-room : goal.listed-requires-clause-room
listed-requires-clause-room c = (c.requires.listed c.args.b c.requires.block).1

pub cost-requires-clause-coded : goal.cost-requires-clause-coded
cost-requires-clause-coded c =
    let q = c.args.q.now in
    let here = c.listed.ensures.value ∙ (c.requires.listed c.args.b c.requires.block).0 in
    subst (λ (l : List Coded). AreCoded l) (sym here) (mantissas_coded q c.requires.asked c.args.b c.requires.block)

pub returns-clause-value : goal.returns-clause-value
returns-clause-value c =
    let here = c.listed.ensures.value ∙ (c.requires.listed c.args.b c.requires.block).0 in
    mantissas_are c.args.q.now c.args.b c.cost.result c.listed.result.now here c.cost.ensures.value
