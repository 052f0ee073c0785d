use Rattle.std.proofs.Common.{◌≤◌, ◌+◌, ◌*◌, ◌%◌, ◌^◌, ◌+ℤ◌, ℤ, pos, unsigned_abs, arith, sym, ◌∙◌, ap, subst}
use Rattle.std.proofs.lemmas.List.{get_or-replicate}
use Rattle.ac_base.proofs.Sums.{sigma_zero, sigma_more}
use Rattle.ac_convolution.specs.Negacyclic.{items}
use Rattle.ac_convolution.specs.Rows.{row}
use Rattle.ac_convolution.proofs.Classes.{eighth_bound}
use Rattle.ac_convolution.proofs.inverse.eighth.Goals as goal

pub loop-e-init : goal.loop-e-init
loop-e-init c = λ k below. get_or-replicate 16 k (pos 0) (pos 0) below ∙ sym (sigma_zero _)

pub add_window-requires-clause-total : goal.add_window-requires-clause-total
add_window-requires-clause-total c = λ k below.
    let bound = eighth_bound c.args.x.now c.requires.bound c.args.i k c.loop-e.e c.requires.place below (omega arith) in
    let is = c.loop-e.invariant k below in
    subst (λ (z : ℤ). unsigned_abs z ≤ 7 * 2 ^ 56) (sym is) (omega arith)

pub loop-e-preserved : goal.loop-e-preserved
loop-e-preserved c = λ k below.
    let x = c.args.x.now in
    let i = c.args.i in
    let e = c.loop-e.e in
    c.add_window.ensures k below
    ∙ ap (λ z. z +ℤ items (row x (8 * (i % 4) + e)) (31 * (e * i) % 32 + k)) (c.loop-e.invariant k below)
    ∙ sym (sigma_more e (λ e. items (row x (8 * (i % 4) + e)) (31 * (e * i) % 32 + k)))
