use Rattle.std.proofs.Common.{◌≡◌, ◌<◌, ◌≤◌, ℕ, length, pos, slice_index, slice_index_or, unsigned_abs, length-set, arith, ◌∙◌, SFits, w32, rules}
use Rattle.std.proofs.lemmas.Int.{to_z-of_z, fits_signed_from_abs}
use Rattle.ac_alloc.proofs.Exciting.{same_leak, coupling_value}
use Rattle.ac_alloc.specs.Excitation.{excite_coupling, leak_from}
use Rattle.ac_alloc.specs.Codes.{fast_gain, slow_gain, fast_decay, slow_decay, fast_start, slow_start}
use Rattle.ac_alloc.proofs.Lists.{written_more}
use Rattle.ac_alloc.proofs.excitation.excite_coupling_channel.Goals as goal

pub loop-b-preserved : goal.loop-b-preserved
loop-b-preserved c =
    let P = λ (j : ℕ). slice_index c.args.bndpsd.now j in
    let b = c.loop-b.b in
    let p = c.args.p.now in
    let a = c.args.from in
    let f = slice_index_or c.leaks.new.out b (pos 0) in
    let s = slice_index_or c.leaks-2.new.out b (pos 0) in
    let fb : SFits w32 f = fits_signed_from_abs w32 f (omega (arith, c.leaks.ensures.bound b (omega arith) (omega arith))) in
    let sb : SFits w32 s = fits_signed_from_abs w32 s (omega (arith, c.leaks-2.ensures.bound b (omega arith) (omega arith))) in
    let ff : SFits w32 c.signed.result = search rules in
    let fs : SFits w32 c.signed-2.result = search rules in
    let ef : f ≡ leak_from (pos (fast_start p)) P (fast_gain p) (fast_decay p) a b = same_leak P a b c.fast_gain.result c.fast_decay.result (fast_gain p) (fast_decay p) c.signed.result c.fast_start.result (fast_start p) f c.fast_gain.ensures.value c.fast_decay.ensures.value c.signed.ensures.value c.fast_start.ensures.value (simp to_z-of_z at (c.leaks.ensures.value b (omega arith) (omega arith))) in
    let es : s ≡ leak_from (pos (slow_start p)) P (slow_gain p) (slow_decay p) a b = same_leak P a b c.slow_gain.result c.slow_decay.result (slow_gain p) (slow_decay p) c.signed-2.result c.slow_start.result (slow_start p) s c.slow_gain.ensures.value c.slow_decay.ensures.value c.signed-2.ensures.value c.slow_start.ensures.value (simp to_z-of_z at (c.leaks-2.ensures.value b (omega arith) (omega arith))) in
    let x = c.greater_leak.result in
    let fx : SFits w32 x = search rules in
    let v : x ≡ excite_coupling p a P b = coupling_value p a P b x f s ef es (simp to_z-of_z at c.greater_leak.ensures.value) in
    let inside : b < length c.loop-b.out = omega (arith, c.loop-b.invariant.2) in
    simp to_z-of_z (
      written_more (λ k y. y ≡ excite_coupling p a P k) (pos 0) c.loop-b.out a b x inside c.loop-b.invariant.0 v,
      written_more (λ k y. unsigned_abs y ≤ 4416) (pos 0) c.loop-b.out a b x inside c.loop-b.invariant.1 c.greater_leak.ensures.bound,
      length-set c.loop-b.out b x ∙ c.loop-b.invariant.2,
    )
