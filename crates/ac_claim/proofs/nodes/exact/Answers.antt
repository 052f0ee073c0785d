use Rattle.std.proofs.Common.{◌≡◌, ◌*◌, ap, sym, ◌∙◌, subst}
use Rattle.ac_base.specs.declared.sizes.Parts.{Parts}
use Rattle.ac_base.specs.Words.{IsWord}
use Rattle.ac_cost.specs.Parts.{parts_at}
use Rattle.ac_cost.specs.Runs.{IsAssignmentOf}
use Rattle.ac_cost.specs.Sixths.{part_of}
use Rattle.ac_seek.specs.Words.{words_of}
use Rattle.ac_seek.proofs.Filling.{words-each, rows-are, all-rows}
use Rattle.ac_seek.proofs.Paths.{path-in_place}
use Rattle.ac_seek.proofs.Sames.{takes-low}
use Rattle.ac_seek.proofs.Wholes.{path-words}
use Rattle.ac_claim.specs.Potentials.{number_of}
use Rattle.ac_claim.proofs.nodes.exact.Goals as goal

pub codes-flat-requires : goal.codes-flat-requires
codes-flat-requires c = path-in_place c.args.basis.now.table.now c.args.path.now c.requires.path

pub assignment-whole-requires : goal.assignment-whole-requires
assignment-whole-requires c = λ k l.
    let path = c.args.path.now in
    subst IsWord (sym (rows-are c.codes-flat.result path k (λ b m. c.codes-flat.ensures k b l m))) (words-each c.args.basis.now.table.now path c.requires.path c.requires.whole k l)

pub parts-bits-requires : goal.parts-bits-requires
parts-bits-requires c =
    let v = c.args.basis.now.table.now in
    let path = c.args.path.now in
    let words = c.assignment-whole.ensures ∙ all-rows c.codes-flat.result path c.codes-flat.ensures in
    record { low = takes-low v.shape c.assignment-whole.result.w (subst (IsAssignmentOf v.shape) (sym words) (path-words v path c.requires.path c.requires.whole)) }

pub returns : goal.returns
returns c =
    let v = c.args.basis.now.table.now in
    let path = c.args.path.now in
    let words = c.assignment-whole.ensures ∙ all-rows c.codes-flat.result path c.codes-flat.ensures in
    let same : c.parts-bits.result ≡ parts_at v.shape v.raw v.t (words_of path) = c.parts-bits.ensures.value ∙ ap (parts_at v.shape v.raw v.t) words in
    ap (λ x. 6 * x) (c.from.ensures ∙ (c.bits_in.ensures ∙ ap (λ (p : Parts). part_of p (number_of c.args.part)) same))
