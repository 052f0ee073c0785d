use Rattle.std.proofs.Common.{◌≡◌, ◌≤◌, sym, ◌∙◌, subst, arith}
use Rattle.ac_base.specs.Words.{IsWord}
use Rattle.ac_expo.specs.Raw.{channels}
use Rattle.ac_cost.specs.Runs.{IsAssignmentOf}
use Rattle.ac_seek.specs.Games.{channel_of}
use Rattle.ac_seek.proofs.Filling.{words-each, rows-are, all-rows}
use Rattle.ac_seek.proofs.Sames.{takes-low}
use Rattle.ac_seek.proofs.Wholes.{path-words}
use Rattle.ac_trees.proofs.offset.whole_parts.Goals as goal

pub assignment-requires : goal.assignment-requires
assignment-requires c = λ k l.
    let v = c.args.offset.now.table.now in
    let w = c.requires.unfit in
    let past : channels v.shape ≤ channel_of w.path = omega (arith, c.requires.whole, w.is_at.held.done) in
    subst IsWord (sym (rows-are c.args.node.now.codes w.path k (λ b m. w.is_at.codes k b l m))) (words-each v w.path w.is_at.held.valid past k l)

pub parts-requires : goal.parts-requires
parts-requires c =
    let v = c.args.offset.now.table.now in
    let w = c.requires.unfit in
    let past : channels v.shape ≤ channel_of w.path = omega (arith, c.requires.whole, w.is_at.held.done) in
    let words = c.assignment.ensures ∙ all-rows c.args.node.now.codes w.path w.is_at.codes in
    record { low = takes-low v.shape c.assignment.result.w (subst (IsAssignmentOf v.shape) (sym words) (path-words v w.path w.is_at.held.valid past)) }
