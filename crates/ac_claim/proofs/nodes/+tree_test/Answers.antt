use Rattle.std.proofs.Common.{◌≡◌, List, length, refl, sym, ap, ◌∙◌, subst}
use Rattle.std.proofs.lemmas.Result.{err_from_is_err_and}
use Rattle.ac_bound.specs.Ways.{potential}
use Rattle.ac_seek.specs.Words.{game_of}
use Rattle.ac_claim.specs.declared.tree.Tree.{Tree}
use Rattle.ac_claim.specs.declared.tree.Tree.TheVariants as variant
use Rattle.ac_claim.specs.Trees.{count_no}
use Rattle.ac_claim.proofs.Answering.{ok_none}
use Rattle.ac_claim.proofs.Children.{split-fails, child-fails, child-passes, popped, is-next, sibling-is, count-inside, first-nexts, first-next, rest-start}
use Rattle.ac_claim.proofs.Standing.{stands-partial}
use Rattle.ac_claim.proofs.nodes.+tree_test.Goals as goal

pub closed_test-requires-clause-partial : goal.closed_test-requires-clause-partial
closed_test-requires-clause-partial t c =
    stands-partial c.args.basis.now.table.now c.args.basis.now.shape.now c.args.path.now c.args.partial.now c.requires.basis.same c.requires.stands

pub returns-in_err-count_test-in-Split-clause-value : goal.returns-in_err-count_test-in-Split-clause-value
returns-in_err-count_test-in-Split-clause-value t c =
    let v = c.args.basis.now.table.now in
    let pot = potential c.args.basis.now.pots.now.p in
    let path = c.args.path.now in
    let p = err_from_is_err_and c.from_residual.result c.from_residual.ensures.1 in
    rw (p.1, p.2) (split-fails v pot c.args.tree.now c.in-Split.trees c.len.result path c.in_err-count_test-in-Split.field-0.0 c.in-Split.is c.len.ensures (c.in_err-count_test-in-Split.ensures path c.requires.stands))

pub returns-in_err-answer-in-Split-clause-value : goal.returns-in_err-answer-in-Split-clause-value
returns-in_err-answer-in-Split-clause-value t c =
    let v = c.args.basis.now.table.now in
    let pot = potential c.args.basis.now.pots.now.p in
    let old = c.loop-child in
    let p = err_from_is_err_and c.from_residual-in_err-answer-in-Split.result c.from_residual-in_err-answer-in-Split.ensures.1 in
    rw (p.1, p.2) (child-fails v pot c.args.tree.now c.child-item.result c.as_slice-child-items.result.now old.child-index c.in-Some.step old.next old.path c.args.path.now c.add-inner.new.path c.in_err-answer-in-Split.field-0.0 c.loop-child-test.true c.child-item.is c.in-Some.is old.invariant.path c.add-inner.ensures.path old.invariant.rest c.in_err-answer-in-Split.ensures.value)

pub loop-child-init : goal.loop-child-init
loop-child-init t c =
    let v = c.args.basis.now.table.now in
    let pot = potential c.args.basis.now.pots.now.p in
    let path = c.args.path.now in
    let items = c.as_slice-child-items.result.now in
    let counted = ok_none (count_no v c.len.result path) c.in_ok-count_test-in-Split.field-0 (c.in_ok-count_test-in-Split.ensures path c.requires.stands) in
    let long : c.len.result ≡ length items = c.len.ensures ∙ sym (ap length c.as_slice-child-items.ensures) in
    let count = ap (λ k. count_no v k path) (sym long) ∙ counted in
    let inside = count-inside v c.len.result path counted in
    let is = subst (λ (ts : List Tree). c.args.tree.now ≡ variant.Split ts) (sym c.as_slice-child-items.ensures) c.in-Split.is in
    record {
      path = refl;
      next = first-next v path c.args.partial.now c.first.result c.requires.stands inside c.first.ensures;
      rest = rest-start v pot c.args.tree.now items c.first.result path is count (first-nexts v path c.args.partial.now c.first.result c.requires.stands inside c.first.ensures);
    }

pub loop-child-preserved : goal.loop-child-preserved
loop-child-preserved t c =
    let v = c.args.basis.now.table.now in
    let pot = potential c.args.basis.now.pots.now.p in
    let old = c.loop-child in
    let s = c.in-Some.step in
    let back = popped c.pop.result c.tree_test-answer.new.path c.pop.new.self old.path s c.pop.ensures (c.tree_test-answer.ensures.path ∙ c.add-inner.ensures.path) in
    let ok = is-next (game_of v) old.path s old.next old.invariant.next c.in-Some.is in
    record {
      path = back ∙ old.invariant.path;
      next = sibling-is (game_of v) old.path c.pop.new.self s c.sibling-next.result ok c.sibling-next.ensures.fine back;
      rest = child-passes v pot c.args.tree.now c.child-item.result c.as_slice-child-items.result.now old.child-index s old.next c.sibling-next.result old.path c.pop.new.self c.add-inner.new.path c.in_ok-answer-in-Split.field-0 c.loop-child-test.true c.child-item.is c.in-Some.is back c.add-inner.ensures.path old.invariant.rest c.in_ok-answer-in-Split.ensures.value c.sibling-next.ensures.next;
    }
