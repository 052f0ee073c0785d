use Rattle.std.proofs.Common.{◌-◌, ◌^◌, pos, slice_index_or, SFits, w32, rules, arith, refl, sym, ◌∙◌}
use Rattle.std.proofs.lemmas.Int.{to_z-of_z}
use Rattle.ac_convolution.specs.Negacyclic.{wave, items}
use Rattle.ac_convolution.proofs.Alternating.{wave_low, wave_high}
use Rattle.ac_convolution.proofs.More.{more}
use Rattle.ac_convolution.proofs.rows.widened.Goals as goal

pub loop-s-preserved : goal.loop-s-preserved
loop-s-preserved c =
    let x = c.args.x.now in
    let s = c.loop-s.s in
    let fits : SFits w32 (slice_index_or c.args.x.now c.loop-s.s (pos 0)) = search rules in
    let value = wave_low 16 (items x) s 0 s (omega arith) (omega arith) refl in
    simp to_z-of_z (more 48 (2 ^ 24) s (wave 16 (items x)) c.loop-s.w (slice_index_or x s (pos 0)) (omega arith) c.loop-s.invariant (sym value) (c.requires s (omega arith)))

pub loop-t-preserved : goal.loop-t-preserved
loop-t-preserved c =
    let x = c.args.x.now in
    let t = c.loop-t.t in
    let fits : SFits w32 c.opposite.result = search rules in
    let fits_x : SFits w32 (slice_index_or c.args.x.now (c.loop-t.t - 16) (pos 0)) = search rules in
    let value = wave_high 16 (items x) t 1 (t - 16) (omega arith) (omega arith) refl in
    let is = simp to_z-of_z at c.opposite.ensures.value in
    simp to_z-of_z (more 48 (2 ^ 24) t (wave 16 (items x)) c.loop-t.w c.opposite.result (omega arith) c.loop-t.invariant (is ∙ sym value) c.opposite.ensures.bound)

pub loop-u-preserved : goal.loop-u-preserved
loop-u-preserved c =
    let x = c.args.x.now in
    let u = c.loop-u.u in
    let fits : SFits w32 (slice_index_or c.args.x.now (c.loop-u.u - 32) (pos 0)) = search rules in
    let value = wave_low 16 (items x) u 2 (u - 32) (omega arith) (omega arith) refl in
    simp to_z-of_z (more 48 (2 ^ 24) u (wave 16 (items x)) c.loop-u.w (slice_index_or x (u - 32) (pos 0)) (omega arith) c.loop-u.invariant (sym value) (c.requires (u - 32) (omega arith)))
