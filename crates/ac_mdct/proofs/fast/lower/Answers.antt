use Rattle.std.proofs.Common.{◌≡◌, ◌≢◌, ◌<◌, ◌≤◌, ◌⊎◌, ◌+◌, ◌^◌, pos, length, slice_index_or, SFits, w32, w64, rules, ap, ap₂, ◌∙◌, arith, inr}
use Rattle.std.proofs.lemmas.Int.{to_z-of_z}
use Rattle.ac_base.specs.Window.{window_of}
use Rattle.ac_mdct.specs.Inverse.{part_of, sample_of}
use Rattle.ac_mdct.specs.Overlap.{part_at}
use Rattle.ac_mdct.proofs.More.{listed_more, stays_more, within_set}
use Rattle.ac_mdct.proofs.fast.lower.Goals as goal

pub loop-n-preserved : goal.loop-n-preserved
loop-n-preserved c =
    let n = c.loop-n.n in
    let sums = c.args.sums.now in
    let fits : SFits w32 c.sample.result = search rules in
    let fits_part : SFits w64 c.part.result = search rules in
    let fits_delay : SFits w64 (slice_index_or c.loop-n.delay c.loop-n.n (pos 0)) = search rules in
    let here : c.window.result ≡ window_of c.loop-n.n = c.window.ensures.value ∙ ap window_of (omega arith) in
    let there : c.window-in-loop-n.result ≡ window_of (c.loop-n.n + 256) = c.window-in-loop-n.ensures.value ∙ ap window_of (omega arith) in
    let fits_w : SFits w32 c.window.result = search rules in
    let fits_w' : SFits w32 c.window-in-loop-n.result = search rules in
    let fits_t : SFits w64 c.unfold.result = search rules in
    let fits_t' : SFits w64 c.unfold-in-loop-n.result = search rules in
    let fits_first : SFits w64 c.part-first.result = search rules in
    let is = simp to_z-of_z at c.part-first.ensures.value in
    let is' = simp to_z-of_z at c.part.ensures.value in
    let first : c.part-first.result ≡ part_at c.args.sums.now c.loop-n.n = is ∙ ap₂ part_of c.unfold.ensures.value here in
    let second : c.part.result ≡ part_at c.args.sums.now (c.loop-n.n + 256) = is' ∙ ap₂ part_of c.unfold-in-loop-n.ensures.value there in
    let kept = c.loop-n.invariant.5 c.loop-n.n (inr (omega arith)) in
    let heard = simp to_z-of_z at c.sample.ensures in
    let sound : c.sample.result ≡ sample_of (part_at c.args.sums.now c.loop-n.n) (slice_index_or c.args.delay.now c.loop-n.n (pos 0)) = heard ∙ ap₂ sample_of first kept in
    let room : c.loop-n.n < length c.loop-n.out = omega arith in
    let room_delay : c.loop-n.n < length c.loop-n.delay = omega arith in (
      search rules,
      search rules,
      simp to_z-of_z (listed_more 0 c.loop-n.n (λ n. sample_of (part_at sums n) (slice_index_or c.args.delay.now n (pos 0))) c.loop-n.out c.sample.result room c.loop-n.invariant.2 sound),
      simp to_z-of_z (listed_more 0 c.loop-n.n (λ n. part_at sums (n + 256)) c.loop-n.delay c.part.result room_delay c.loop-n.invariant.3 second),
      simp to_z-of_z (stays_more 0 c.loop-n.n c.args.out.now c.loop-n.out c.sample.result (omega arith) c.loop-n.invariant.4),
      simp to_z-of_z (stays_more 0 c.loop-n.n c.args.delay.now c.loop-n.delay c.part.result (omega arith) c.loop-n.invariant.5),
      simp to_z-of_z (within_set (2 ^ 55) 256 c.loop-n.n c.loop-n.delay c.part.result room_delay c.loop-n.invariant.6 c.part.ensures.bound),
    )
