use Rattle.std.proofs.Common.{◌≡◌, List, sym, subst}
use Rattle.ac_claim.specs.declared.tree.Tree.{Tree}
use Rattle.ac_claim.specs.declared.tree.Tree.TheVariants as variant
use Rattle.ac_cert_print.specs.Pages.{page}
use Rattle.ac_cert_print.proofs.Nodes.{closed-wrote, full-wrote, child-wrote, split-wrote}
use Rattle.ac_cert_print.proofs.trees.+tree.Goals as goal

pub returns-in-Closed : goal.returns-in-Closed
returns-in-Closed g t c =
    let a = page g.O.Sink.held g.O.Sink.faults c.args.pen.now c.args.out.now in
    let b = page g.O.Sink.held g.O.Sink.faults c.item.new.pen c.item.new.out in
    closed-wrote c.args.node.now c.in-Closed.part c.closed_letter.result a b c.in-Closed.is c.closed_letter.ensures c.item.ensures

pub returns-in-Full : goal.returns-in-Full
returns-in-Full g t c =
    let a = page g.O.Sink.held g.O.Sink.faults c.args.pen.now c.args.out.now in
    let b = page g.O.Sink.held g.O.Sink.faults c.item-in-Full.new.pen c.item-in-Full.new.out in
    full-wrote c.args.node.now c.in-Full.part c.full_letter.result a b c.in-Full.is c.full_letter.ensures c.item-in-Full.ensures

pub loop-child-init : goal.loop-child-init
loop-child-init g t c = c.item-in-Split.ensures

pub loop-child-preserved : goal.loop-child-preserved
loop-child-preserved g t c =
    let a = page g.O.Sink.held g.O.Sink.faults c.args.pen.now c.args.out.now in
    let b = page g.O.Sink.held g.O.Sink.faults c.loop-child.pen c.loop-child.out in
    let e = page g.O.Sink.held g.O.Sink.faults c.tree.new.pen c.tree.new.out in
    child-wrote c.as_slice-child-items.result.now c.loop-child.child-index c.child-item.result a b e c.loop-child-test.true c.child-item.is c.loop-child.invariant c.tree.ensures

pub returns-after-loop-child : goal.returns-after-loop-child
returns-after-loop-child g t c =
    let items = c.as_slice-child-items.result.now in
    let a = page g.O.Sink.held g.O.Sink.faults c.args.pen.now c.args.out.now in
    let b = page g.O.Sink.held g.O.Sink.faults c.loop-child.pen c.loop-child.out in
    let e = page g.O.Sink.held g.O.Sink.faults c.item-in-Split-2.new.pen c.item-in-Split-2.new.out in
    let is = subst (λ (ts : List Tree). c.args.node.now ≡ variant.Split ts) (sym c.as_slice-child-items.ensures) c.in-Split.is in
    split-wrote c.args.node.now items c.loop-child.child-index a b e is c.loop-child-test.false c.loop-child.invariant c.item-in-Split-2.ensures
