use Rattle.std.proofs.Common.{◌*◌, ◌-◌, ap, sym, ◌∙◌}
use Rattle.ac_base.specs.declared.shapes.Shape.{Shape}
use Rattle.ac_bound.specs.Steps.{kinds_of}
use Rattle.ac_claim.proofs.Standing.{want-is}
use Rattle.ac_claim.proofs.nodes.want.Goals as goal

pub returns-clause-value : goal.returns-clause-value
returns-clause-value c = λ path stands.
    let partial = c.args.partial.now in
    let same = ap (λ (s : Shape). kinds_of s partial.done) c.requires.basis.same in
    c.from.ensures ∙ (ap (λ x. (6 - partial.at) * x) (c.kinds-each.ensures ∙ sym same) ∙ sym (want-is c.args.basis.now.table.now path partial stands))
