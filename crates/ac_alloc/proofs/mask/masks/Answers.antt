use Rattle.std.proofs.Common.{◌≡◌, ◌<◌, pos, slice_index, slice_index_or, length, length-set, arith, ap, ◌∙◌, SFits, w32, rules}
use Rattle.std.proofs.lemmas.Int.{to_z-of_z, fits_signed_from_abs}
use Rattle.ac_alloc.specs.Masking.{masked, IsLevel}
use Rattle.ac_alloc.specs.Codes.{knee}
use Rattle.ac_base.specs.Allocation.{hth_list}
use Rattle.ac_alloc.proofs.Lists.{written_more, written_all, kept_more}
use Rattle.ac_alloc.proofs.mask.masks.Goals as goal

pub loop-b-preserved : goal.loop-b-preserved
loop-b-preserved c =
    let p = c.args.p.now in
    let b = c.loop-b.b in
    let x = slice_index_or c.args.excite.now b (pos 0) in
    let y = c.band_mask.result in
    let bndpsd = c.args.bndpsd.now in
    let fx : SFits w32 x = fits_signed_from_abs w32 x (omega (arith, c.requires.excite b (omega arith) (omega arith))) in
    let fy : SFits w32 y = search rules in
    let inside : b < length c.loop-b.out = omega (arith, c.loop-b.invariant.2) in
    let hear = c.hearing.ensures.value in
    let v : y ≡ masked x (knee p) (slice_index bndpsd b) (slice_index (hth_list p.fscod) b) = (simp to_z-of_z at c.band_mask.ensures.value) ∙ ap (λ k. masked x k (slice_index bndpsd b) c.hearing.result) c.knee-knee.ensures.value ∙ ap (masked x (knee p) (slice_index bndpsd b)) hear in
    simp to_z-of_z (
      written_more (λ k z. z ≡ masked (slice_index_or c.args.excite.now k (pos 0)) (knee p) (slice_index bndpsd k) (slice_index (hth_list p.fscod) k)) (pos 0) c.loop-b.out c.args.from b y inside c.loop-b.invariant.0 v,
      written_all IsLevel (pos 0) c.loop-b.out b y inside c.loop-b.invariant.1 (c.band_mask.ensures.least, c.band_mask.ensures.bound),
      length-set c.loop-b.out b y ∙ c.loop-b.invariant.2,
      kept_more (pos 0) c.loop-b.out c.args.out.now c.args.from b y (omega arith) c.loop-b.invariant.3,
    )
