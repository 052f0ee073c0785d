use Rattle.std.proofs.Common.{◌-◌, drop, arith, ◌∙◌}
use Rattle.std.proofs.lemmas.List.{get_or-take, get_or-drop}
use Rattle.std.specs.Prelude.{take}
use Rattle.ac_levels.proofs.lanes.load.Goals as goal

pub returns-clause-places : goal.returns-clause-places
returns-clause-places c = λ i below.
    let old = c.args.old.now in
    let at = c.args.at in
    get_or-take 16 (take (288 - at) (drop at old)) i 0 below ∙ get_or-take (288 - at) (drop at old) i 0 (omega arith) ∙ get_or-drop at old i 0
