use Rattle.std.proofs.Common.{◌≡◌, ℕ, ◌+◌, ◌≤◌, min, arith, set, subst, sym, ap, ap₂, ◌∙◌}
use Rattle.ac_base.specs.declared.spans.Span.{Span}
use Rattle.ac_energy.specs.Coefficients.{entry}
use Rattle.ac_rematrix.specs.Halves.{IsBandDone}
use Rattle.ac_rematrix.specs.Rematrix.{band_start, band_end, cut_of, is_weaker}
use Rattle.ac_rematrix.proofs.Walk.{AreSoFar, all_flags, all_pairs, more, small_before}
use Rattle.ac_rematrix.proofs.rematrix.Goals as goal

pub rematrix_bins-requires-clause-left : goal.rematrix_bins-requires-clause-left
rematrix_bins-requires-clause-left c =
    let shape = c.args.shape.now in
    let ends : c.span.result.end ≡ cut_of shape = ap (λ (s : Span). s.end) c.span.ensures.value in
    let end_is : c.min-end.result ≡ band_end shape c.loop-band.band = c.min-end.ensures ∙ ap₂ min c.band_start.ensures.value (c.from-cut.ensures ∙ ends) in
    small_before shape c.loop-band.band c.loop-band.flags c.args.coefs.now.c c.loop-band.coefs.c (omega arith) (omega (arith, ends, c.span.ensures.bound)) c.loop-band.invariant 0 c.band_start-in-loop-band.result c.min-end.result (omega arith) c.band_start-in-loop-band.ensures.value end_is c.requires.small

pub rematrix_bins-requires-clause-right : goal.rematrix_bins-requires-clause-right
rematrix_bins-requires-clause-right c =
    let shape = c.args.shape.now in
    let ends : c.span.result.end ≡ cut_of shape = ap (λ (s : Span). s.end) c.span.ensures.value in
    let end_is : c.min-end.result ≡ band_end shape c.loop-band.band = c.min-end.ensures ∙ ap₂ min c.band_start.ensures.value (c.from-cut.ensures ∙ ends) in
    small_before shape c.loop-band.band c.loop-band.flags c.args.coefs.now.c c.loop-band.coefs.c (omega arith) (omega (arith, ends, c.span.ensures.bound)) c.loop-band.invariant 1 c.band_start-in-loop-band.result c.min-end.result (omega arith) c.band_start-in-loop-band.ensures.value end_is c.requires.small

pub loop-band-preserved : goal.loop-band-preserved
loop-band-preserved c =
    let shape = c.args.shape.now in
    let band = c.loop-band.band in
    let new = c.loop-band.coefs.c in
    let after = c.rematrix_bins.new.rows in
    let flag = c.rematrix_bins.result in
    let ends : c.span.result.end ≡ cut_of shape = ap (λ (s : Span). s.end) c.span.ensures.value in
    let most : cut_of shape ≤ 253 = omega (arith, ends, c.span.ensures.bound) in
    let start_is : c.band_start-in-loop-band.result ≡ band_start band = c.band_start-in-loop-band.ensures.value in
    let end_is : c.min-end.result ≡ band_end shape band = c.min-end.ensures ∙ ap₂ min c.band_start.ensures.value (c.from-cut.ensures ∙ ends) in
    let done : IsBandDone flag (band_start band) (band_end shape band) new after =
    subst (λ (s : ℕ). IsBandDone flag s (band_end shape band) new after) start_is (subst (λ (e : ℕ). IsBandDone flag c.band_start-in-loop-band.result e new after) end_is c.rematrix_bins.ensures.band) in
    let flag_is = c.rematrix_bins.ensures.flag ∙ ap₂ (λ (s e : ℕ). is_weaker (entry new 0) (entry new 1) s e) start_is end_is in
    let next = more shape band c.loop-band.flags c.args.coefs.now.c new (omega arith) most c.loop-band.invariant flag after done c.requires.stereo (omega arith) flag_is in
    subst (λ (j : ℕ). AreSoFar shape (band + 1) (set c.loop-band.flags j flag) c.args.coefs.now.c after) (sym c.from.ensures) next

pub returns-clause-flags : goal.returns-clause-flags
returns-clause-flags c = all_flags c.args.shape.now c.loop-band.band c.loop-band.flags c.args.coefs.now.c c.loop-band.coefs.c (omega arith) c.loop-band.invariant

pub returns-clause-pair : goal.returns-clause-pair
returns-clause-pair c = all_pairs c.args.shape.now c.loop-band.band c.loop-band.flags c.args.coefs.now.c c.loop-band.coefs.c (omega arith) c.loop-band.invariant
