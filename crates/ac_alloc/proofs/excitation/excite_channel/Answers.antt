use Rattle.std.proofs.Common.{◌≡◌, ◌<◌, ◌≤◌, ℕ, length, pos, slice_index, slice_index_or, unsigned_abs, length-set, arith, ◌∙◌, SFits, w32, rules, to_z}
use Rattle.std.proofs.lemmas.Int.{to_z-of_z, fits_signed_from_abs}
use Rattle.ac_alloc.proofs.Exciting.{excite_below, excite_low, excite_high, IsLeak, lows_reach, few_bands}
use Rattle.ac_alloc.specs.Excitation.{excite, low}
use Rattle.ac_alloc.specs.Codes.{fast_gain, slow_gain, fast_decay, slow_decay}
use Rattle.ac_alloc.proofs.Lists.{written_next}
use Rattle.ac_alloc.proofs.excitation.excite_channel.Goals as goal
use Rattle.ac_alloc.proofs.excitation.excite_channel.Goals.{then-b-begin, else-b-begin+then-b-le21, else-b-begin+else-b-le21}

pub loop-b-preserved : goal.loop-b-preserved
loop-b-preserved c =
    let P = λ (j : ℕ). slice_index c.args.bndpsd.now j in
    let b = c.loop-b.b in
    let p = c.args.p.now in
    let z = c.find_begin-begin.result in
    let x = to_z w32 c.if-b-begin.out-bits in
    let f = slice_index_or c.leaks.new.out b (pos 0) in
    let s = slice_index_or c.leaks-2.new.out b (pos 0) in
    let ff : SFits w32 c.less_gain-fast_first.result = search rules in
    let fs : SFits w32 c.less_gain-slow_first.result = search rules in
    let fb : z ≤ b → SFits w32 f = λ h. fits_signed_from_abs w32 f (omega (arith, c.leaks.ensures.bound b h (omega arith))) in
    let sb : z ≤ b → SFits w32 s = λ h. fits_signed_from_abs w32 s (omega (arith, c.leaks-2.ensures.bound b h (omega arith))) in
    let lowcomps : b ≤ 21 → slice_index c.lowcomps.new.out b ≡ low c.args.lfe P b = λ h. c.lowcomps.ensures.value b (lows_reach c.args.lfe b (length c.args.bndpsd.now) c.requires.few (omega arith) h) in
    let lf : z ≤ b → IsLeak P (fast_gain p) (fast_decay p) b z f = λ h. record {
      gain = c.fast_gain-fast_gain.result;
      decay = c.fast_decay.result;
      first = c.less_gain-fast_first.result;
      gain_is = c.fast_gain-fast_gain.ensures.value;
      decay_is = c.fast_decay.ensures.value;
      first_is = c.less_gain-fast_first.ensures.value;
      value = simp to_z-of_z at (c.leaks.ensures.value b h (omega arith));
    } in
    let ls : z ≤ b → IsLeak P (slow_gain p) (slow_decay p) b z s = λ h. record {
      gain = c.slow_gain-slow_gain.result;
      decay = c.slow_decay.result;
      first = c.less_gain-slow_first.result;
      gain_is = c.slow_gain-slow_gain.ensures.value;
      decay_is = c.slow_decay.ensures.value;
      first_is = c.less_gain-slow_first.ensures.value;
      value = simp to_z-of_z at (c.leaks-2.ensures.value b h (omega arith));
    } in
    let v : x ≡ excite p c.args.lfe P b = elim c.if-b-begin.branch [
      | then-b-begin w ↦ let fr : SFits w32 w.below_leaks.result = search rules in
          excite_below p c.args.lfe P b z c.fast_gain-fast_gain.result _ x c.find_begin-begin.ensures.value c.fast_gain-fast_gain.ensures.value (lowcomps (omega arith)) (omega arith) (w.out-is ∙ to_z-of_z w32 w.below_leaks.result fr ∙ w.below_leaks.ensures.value)
      | else-b-begin+then-b-le21 w ↦ let fr : SFits w32 w.with_lowcomp.result = search rules in
          let h : z ≤ b = omega arith in
          let f1 = fb h in
          let s1 = sb h in
          excite_low p c.args.lfe P b z _ x f s c.find_begin-begin.ensures.value (omega arith) h (omega arith) (lf h) (ls h) (lowcomps (omega arith)) (w.out-is ∙ to_z-of_z w32 w.with_lowcomp.result fr ∙ (simp to_z-of_z at w.with_lowcomp.ensures.value))
      | else-b-begin+else-b-le21 w ↦ let fr : SFits w32 w.greater_leak.result = search rules in
          let h : z ≤ b = omega arith in
          let f1 = fb h in
          let s1 = sb h in
          excite_high p c.args.lfe P b z x f s c.find_begin-begin.ensures.value (omega arith) h (omega arith) (lf h) (ls h) (w.out-is ∙ to_z-of_z w32 w.greater_leak.result fr ∙ (simp to_z-of_z at w.greater_leak.ensures.value))
    ] in
    let u : unsigned_abs x ≤ 4416 = elim c.if-b-begin.branch [
      | then-b-begin w ↦ let fr : SFits w32 w.below_leaks.result = search rules in
          rw (w.out-is ∙ to_z-of_z w32 w.below_leaks.result fr) w.below_leaks.ensures.bound
      | else-b-begin+then-b-le21 w ↦ let fr : SFits w32 w.with_lowcomp.result = search rules in
          rw (w.out-is ∙ to_z-of_z w32 w.with_lowcomp.result fr) w.with_lowcomp.ensures.bound
      | else-b-begin+else-b-le21 w ↦ let fr : SFits w32 w.greater_leak.result = search rules in
          rw (w.out-is ∙ to_z-of_z w32 w.greater_leak.result fr) w.greater_leak.ensures.bound
    ] in
    let inside : b < length c.loop-b.out = omega (arith, c.loop-b.invariant.2, few_bands c.args.lfe (length c.args.bndpsd.now) c.requires.few) in (
      written_next (λ k y. y ≡ excite p c.args.lfe P k) (pos 0) c.loop-b.out b x inside c.loop-b.invariant.0 v,
      written_next (λ k y. unsigned_abs y ≤ 4416) (pos 0) c.loop-b.out b x inside c.loop-b.invariant.1 u,
      length-set c.loop-b.out b x ∙ c.loop-b.invariant.2,
    )
