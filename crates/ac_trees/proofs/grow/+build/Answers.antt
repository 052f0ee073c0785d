use Rattle.std.proofs.Common.{◌≡◌, ℕ, ◌<◌, ◌∷◌, ◌++◌, [], List, Option, None, Some, IfSome, ◌≤◌, rules, arith, ap, sym, subst, ◌∙◌}
use Rattle.ac_expo.specs.Raw.{channels, channel_span}
use Rattle.ac_bound.specs.Ways.{potential}
use Rattle.ac_bound.proofs.Leasts.{kinds-least}
use Rattle.ac_seek.specs.declared.step.Step.{Step}
use Rattle.ac_seek.specs.Games.{IsNext, channel_of}
use Rattle.ac_seek.specs.Words.{game_of}
use Rattle.ac_claim.specs.declared.tree.Tree.{Tree}
use Rattle.ac_claim.specs.Trees.{tree_no}
use Rattle.ac_trees.specs.Nodes.{IsAt}
use Rattle.ac_trees.proofs.Growing.{Grown, Grown-push, start-all, Grown-end, later-of, place-all, full-none}
use Rattle.ac_trees.proofs.Standing.{node-low, falls}
use Rattle.ac_trees.proofs.grow.+build.Goals as goal

pub loop-next-init : goal.loop-next-init
loop-next-init t c =
    let offset = c.args.offset.now in
    let v = offset.table.now in
    let node = c.args.node.now in
    let channel = node.partial.done in
    let at = node.partial.at in
    let inside : channel < channels v.shape = omega (arith, c.if-partial-coded.false, c.coded.ensures.value, ap channels c.requires.offset.same) in
    let low = node-low v node c.requires.unfit in
    let some = kinds-least (channel_span v.shape channel).lead in
    let start = start-all v (potential offset.pots.now.p) node c.first.result c.first.ensures inside low some in
    record { next = start.next; grown = subst (λ (ts : List Tree). Grown v (potential offset.pots.now.p) node ts (Some c.first.result)) (sym c.new-trees.ensures) start.grown }

pub loop-next-preserved : goal.loop-next-preserved
loop-next-preserved t c =
    let offset = c.args.offset.now in
    let v = offset.table.now in
    let pot = potential offset.pots.now.p in
    let node = c.args.node.now in
    let s = c.in-Some-next.step in
    let tree = c.in_ok-tree.tree in
    let ok = subst (λ (o : Option Step). IfSome o (IsNext (game_of v) node.partial.done node.partial.at)) c.in-Some-next.is c.loop-next.invariant.next in
    let w : Grown v pot node c.loop-next.trees (Some s) = subst (λ (o : Option Step). Grown v pot node c.loop-next.trees o) c.in-Some-next.is c.loop-next.invariant.grown in
    let f : (path : List Step) → IsAt v path node → tree_no v pot tree (s ∷ path) ≡ None = λ path is. c.in_ok-tree.ensures (s ∷ path) (c.child.ensures.at path is) in
    let u : c.push.new.self ≡ c.loop-next.trees ++ tree ∷ [] = search rules in
    record {
      next = place-all (game_of v) node.partial.done node.partial.at s c.sibling-next.result ok c.sibling-next.ensures.fine;
      grown = subst (λ (ts : List Tree). Grown v pot node ts c.sibling-next.result) (sym u) (Grown-push v pot node c.loop-next.trees s tree c.sibling-next.result w f (later-of v s c.sibling-next.result c.sibling-next.ensures.next));
    }

pub build-requires : goal.build-requires
build-requires t c =
    let v = c.args.offset.now.table.now in
    let node = c.args.node.now in
    let s = c.in-Some-next.step in
    let ok = subst (λ (o : Option Step). IfSome o (IsNext (game_of v) node.partial.done node.partial.at)) c.in-Some-next.is c.loop-next.invariant.next in
    let fall = falls (game_of v) node.partial.done node.partial.at s (node-low v node c.requires.unfit) ok in
    (omega (arith, fall, c.child.ensures.channel, c.child.ensures.boundary), (c.requires.offset, c.child.ensures.unfit))

pub returns-then-partial-coded : goal.returns-then-partial-coded
returns-then-partial-coded t c = λ path is.
    let offset = c.args.offset.now in
    let v = offset.table.now in
    let past : channels v.shape ≤ channel_of path = omega (arith, c.if-partial-coded.true, c.coded.ensures.value, ap channels c.requires.offset.same, is.held.done) in
    full-none v (potential offset.pots.now.p) c.unfit.result path past (c.unfit.ensures path is)

pub returns : goal.returns
returns t c = λ path is.
    let offset = c.args.offset.now in
    let v = offset.table.now in
    let pot = potential offset.pots.now.p in
    let node = c.args.node.now in
    let inside : node.partial.done < channels v.shape = omega (arith, c.if-partial-coded.false, c.coded.ensures.value, ap channels c.requires.offset.same) in
    let w : Grown v pot node c.loop-next.trees None = subst (λ (o : Option Step). Grown v pot node c.loop-next.trees o) c.in_default-next.is c.loop-next.invariant.grown in
    Grown-end v pot node c.loop-next.trees inside w path is
