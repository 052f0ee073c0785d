use Rattle.std.proofs.Common.{[], Option, reverse, ap, sym, ◌∙◌}
use Rattle.std.proofs.lemmas.Result.{err_from_is_err_and}
use Rattle.ac_claim.specs.declared.tree.Tree.{Tree}
use Rattle.ac_cert_text.specs.TreeText.{grow}
use Rattle.ac_cert_text.proofs.Growing.{no-item, item-fails, item-ends, item-goes_on, step_of}
use Rattle.ac_cert_text.proofs.grow.tree.Goals as goal

pub returns-in_err-done : goal.returns-in_err-done
returns-in_err-done c =
    let p = err_from_is_err_and c.from_residual.result c.from_residual.ensures.1 in
    let l = c.loop-byte in
    rw (p.1, p.2) (item-fails (reverse l.open.items) c.in-Some.byte l.cursor.rest.now c.in-Some.rest.now c.in_err-done.field-0.0 (grow [] c.args.cursor.now.rest.now) c.in_err-done.ensures c.in-Some.ensures l.invariant)

pub returns-in-Some-done : goal.returns-in-Some-done
returns-in-Some-done c =
    let l = c.loop-byte in
    let up = reverse c.item.new.open.items in
    let is = c.in_ok-done.ensures ∙ ap (λ (done : Option Tree). step_of done up) c.in-Some-done.is in
    item-ends (reverse l.open.items) up c.in-Some.byte l.cursor.rest.now c.in-Some.rest.now c.in-Some-done.tree (grow [] c.args.cursor.now.rest.now) is c.in-Some.ensures l.invariant

pub loop-byte-preserved : goal.loop-byte-preserved
loop-byte-preserved c =
    let l = c.loop-byte in
    let up = reverse c.item.new.open.items in
    let is = c.in_ok-done.ensures ∙ ap (λ (done : Option Tree). step_of done up) c.in_default-done.is in
    item-goes_on (reverse l.open.items) up c.in-Some.byte l.cursor.rest.now c.in-Some.rest.now (grow [] c.args.cursor.now.rest.now) is c.in-Some.ensures l.invariant

pub returns : goal.returns
returns c =
    let l = c.loop-byte in
    sym l.invariant ∙ no-item (reverse l.open.items) l.cursor.rest.now c.in_default.ensures
