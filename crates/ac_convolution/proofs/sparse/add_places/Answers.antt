use Rattle.std.proofs.Common.{◌≤◌, ◌+◌, ◌*◌, ◌^◌, ◌+ℤ◌, ◌*ℤ◌, ℤ, pos, unsigned_abs, slice_index_or, rules, arith, sym, ◌∙◌, ap, subst, SFits, w32}
use Rattle.std.proofs.lemmas.Int.{to_z-of_z}
use Rattle.std.proofs.lemmas.List.{get_or-replicate}
use Rattle.ac_base.proofs.Sums.{sigma_zero, sigma_more}
use Rattle.ac_convolution.specs.Negacyclic.{items}
use Rattle.ac_convolution.proofs.Places.{sums_bound}
use Rattle.ac_convolution.proofs.sparse.add_places.Goals as goal

pub loop-i-init : goal.loop-i-init
loop-i-init c = λ k below. get_or-replicate 256 k (pos 0) (pos 0) below ∙ sym (sigma_zero _)

pub add_place-requires-clause-total : goal.add_place-requires-clause-total
add_place-requires-clause-total c = λ k below.
    let bound = sums_bound c.args.g.now c.args.factors.now c.requires.g c.requires.factors k c.loop-i.i below (omega arith) in
    subst (λ (z : ℤ). unsigned_abs z ≤ 255 * 2 ^ 54) (sym (c.loop-i.invariant k below)) (omega arith)

pub loop-i-preserved : goal.loop-i-preserved
loop-i-preserved c = λ k below.
    let i = c.loop-i.i in
    let g = c.args.g.now in
    let w = c.args.factors.now in
    let fits : SFits w32 (slice_index_or c.args.g.now c.loop-i.i (pos 0)) = search rules in
    let new = simp to_z-of_z at (c.add_place.ensures k below) in
    new
    ∙ ap (λ z. z +ℤ (items g i *ℤ items w (i + k))) (c.loop-i.invariant k below)
    ∙ sym (sigma_more i (λ j. items g j *ℤ items w (j + k)))
