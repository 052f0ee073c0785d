use Rattle.std.proofs.Common.{◌-◌, ◌+◌, ◌^◌, pos, slice_index_or, SFits, w64, rules, arith, refl, sym, ◌∙◌}
use Rattle.std.proofs.lemmas.Int.{to_z-of_z}
use Rattle.ac_convolution.specs.Negacyclic.{wave, items}
use Rattle.ac_convolution.proofs.Alternating.{wave_low, wave_high}
use Rattle.ac_convolution.proofs.More.{more}
use Rattle.ac_convolution.proofs.inverse.turned.Goals as goal

pub loop-k-preserved : goal.loop-k-preserved
loop-k-preserved c =
    let v = c.args.v.now in
    let k = c.loop-k.k in
    let fits : SFits w64 (slice_index_or c.args.v.now (c.loop-k.k + 8) (pos 0)) = search rules in
    let value = wave_low 16 (items v) (k + 8) 0 (k + 8) (omega arith) (omega arith) refl in
    simp to_z-of_z (more 16 (2 ^ 55) k (λ k. wave 16 (items v) (k + 8)) c.loop-k.r (slice_index_or v (k + 8) (pos 0)) (omega arith) c.loop-k.invariant (sym value) (c.requires (k + 8) (omega arith)))

pub loop-m-preserved : goal.loop-m-preserved
loop-m-preserved c =
    let v = c.args.v.now in
    let m = c.loop-m.m in
    let fits : SFits w64 c.opposite.result = search rules in
    let fits_v : SFits w64 (slice_index_or c.args.v.now (c.loop-m.m - 8) (pos 0)) = search rules in
    let small = c.requires (m - 8) (omega arith) in
    let value = wave_high 16 (items v) (m + 8) 1 (m - 8) (omega arith) (omega arith) refl in
    let is = simp to_z-of_z at c.opposite.ensures.value in
    let bound = simp to_z-of_z at c.opposite.ensures.bound in
    simp to_z-of_z (more 16 (2 ^ 55) m (λ k. wave 16 (items v) (k + 8)) c.loop-m.r c.opposite.result (omega arith) c.loop-m.invariant (is ∙ sym value) (omega arith))
