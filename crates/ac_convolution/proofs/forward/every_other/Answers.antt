use Rattle.std.proofs.Common.{◌≤◌, ◌+◌, ◌*◌, ◌%◌, ◌^◌, ◌+ℤ◌, ℤ, pos, unsigned_abs, arith, sym, ◌∙◌, ap, subst}
use Rattle.std.proofs.lemmas.List.{get_or-replicate}
use Rattle.ac_base.proofs.Sums.{sigma_zero, sigma_more}
use Rattle.ac_convolution.specs.Negacyclic.{items}
use Rattle.ac_convolution.specs.Rows.{row}
use Rattle.ac_convolution.proofs.Halves.{some_bound}
use Rattle.ac_convolution.proofs.forward.every_other.Goals as goal

pub loop-q-init : goal.loop-q-init
loop-q-init c = λ i below. get_or-replicate 16 i (pos 0) (pos 0) below ∙ sym (sigma_zero _)

pub add_window-requires-clause-total : goal.add_window-requires-clause-total
add_window-requires-clause-total c = λ i below.
    let bound = some_bound c.args.rows.now c.requires.bound c.args.from c.args.e i c.loop-q.q c.requires.from below (omega arith) in
    let is = c.loop-q.invariant i below in
    subst (λ (z : ℤ). unsigned_abs z ≤ 7 * 2 ^ 24) (sym is) (omega arith)

pub loop-q-preserved : goal.loop-q-preserved
loop-q-preserved c = λ i below.
    let rows = c.args.rows.now in
    let from = c.args.from in
    let e = c.args.e in
    let q = c.loop-q.q in
    c.add_window.ensures i below
    ∙ ap (λ z. z +ℤ items (row rows (2 * q + from)) (e * (2 * q + from) % 32 + i)) (c.loop-q.invariant i below)
    ∙ sym (sigma_more q (λ q. items (row rows (2 * q + from)) (e * (2 * q + from) % 32 + i)))

pub returns-clause-bound : goal.returns-clause-bound
returns-clause-bound c = λ i below.
    let bound = some_bound c.args.rows.now c.requires.bound c.args.from c.args.e i c.loop-q.q c.requires.from below (omega arith) in
    let is = c.loop-q.invariant i below in
    subst (λ (z : ℤ). unsigned_abs z ≤ 2 ^ 27) (sym is) (omega arith)
