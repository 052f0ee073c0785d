use Rattle.std.proofs.Common.{◌≡◌, ◌<◌, ◌+◌, ◌^◌, ◌*ℤ◌, pos, length, slice_index_or, SFits, w64, rules, ap, ◌∙◌, arith}
use Rattle.std.proofs.lemmas.Int.{to_z-of_z}
use Rattle.ac_base.specs.Sigma.{sigma}
use Rattle.ac_base.specs.Cosine.{cosine_at}
use Rattle.ac_mdct.specs.Inverse.{inverse_sum}
use Rattle.ac_mdct.specs.Place.{place}
use Rattle.ac_mdct.proofs.More.{lists_more, within_more}
use Rattle.ac_mdct.proofs.Spins.{inverse_spins}
use Rattle.ac_mdct.proofs.fast.inverse_sums.Goals as goal

pub loop-i-preserved : goal.loop-i-preserved
loop-i-preserved c =
    let w = c.spin_inverse.new.out in
    let fits : SFits w64 c.power_sum.result = search rules in
    let at : c.place_of.result ≡ place c.loop-i.i = c.place_of.ensures.value ∙ ap place (omega arith) in
    let spins = inverse_spins c.args.coefs.now w c.place_of.result c.place_of.ensures.bound c.spin_inverse.ensures.value in
    let sum = c.power_sum.ensures.value ∙ ap (λ a. sigma 256 (λ b. slice_index_or w b (pos 0) *ℤ cosine_at (5 ^ (a + b)))) c.log.ensures.value ∙ spins ∙ ap (λ n. inverse_sum c.args.coefs.now n) at in
    let room : c.loop-i.i < length c.loop-i.out = omega arith in (
      search rules,
      simp to_z-of_z (lists_more (λ i. inverse_sum c.args.coefs.now (place i)) c.loop-i.i c.loop-i.out c.power_sum.result room c.loop-i.invariant.1 sum),
      simp to_z-of_z (within_more (2 ^ 62) c.loop-i.i c.loop-i.out c.power_sum.result room c.loop-i.invariant.2 c.power_sum.ensures.bound),
    )
