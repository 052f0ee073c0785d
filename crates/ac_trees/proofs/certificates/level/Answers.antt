use Rattle.std.proofs.Common.{◌≡◌, [], sym, ap, ◌∙◌, subst}
use Rattle.ac_base.specs.declared.shapes.Shape.{Shape}
use Rattle.ac_cost.specs.Parts.{IsFeasible}
use Rattle.ac_cost.specs.Records.{AtOffset, at_offset}
use Rattle.ac_claim.specs.declared.certs.Level.{Level}
use Rattle.ac_trees.specs.Made.{IsLevel}
use Rattle.ac_trees.proofs.Standing.{root-unfit}
use Rattle.ac_trees.proofs.certificates.level.Goals as goal

pub build-requires-clause-unfit : goal.build-requires-clause-unfit
build-requires-clause-unfit c =
    let raw = c.args.lists.now.raw in
    let place : c.at-table.result ≡ at_offset c.args.shape.now raw c.args.t = c.at-table.ensures.value ∙ ap (λ (s : Shape). at_offset s raw c.args.t) c.requires.same in
    root-unfit c.at-table.result c.root.result c.root.ensures.at (subst (λ (v : AtOffset). IsFeasible v.shape v.raw v.t → ⊥) (sym place) c.requires.none)

pub returns : goal.returns
returns c =
    let raw = c.args.lists.now.raw in
    let place : c.at-table.result ≡ at_offset c.args.shape.now raw c.args.t = c.at-table.ensures.value ∙ ap (λ (s : Shape). at_offset s raw c.args.t) c.requires.same in
    let level : Level = record { pots = c.of-pots.result; tree = c.in_ok-tree.tree } in
    subst (λ (v : AtOffset). IsLevel v level) place (record { are = c.of-pots.ensures.value; fine = c.in_ok-tree.ensures [] c.root.ensures.at })
