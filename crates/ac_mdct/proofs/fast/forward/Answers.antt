use Rattle.std.proofs.Common.{◌≡◌, ◌<◌, ◌+◌, ◌^◌, ◌++◌, ◌*ℤ◌, pos, length, slice_index_or, SFits, w32, w64, rules, ap, ◌∙◌, arith, subst, sym, ℤ, unsigned_abs, ◌≤◌, ◌-◌}
use Rattle.std.proofs.lemmas.Int.{to_z-of_z}
use Rattle.ac_base.specs.Sigma.{sigma}
use Rattle.ac_base.specs.Cosine.{cosine_at}
use Rattle.ac_mdct.specs.Forward.{coefficient, forward_sum, windowed}
use Rattle.ac_mdct.proofs.Chains.{forward_chain}
use Rattle.ac_mdct.proofs.More.{lists_more}
use Rattle.ac_mdct.proofs.More.{coefficient_bound}
use Rattle.ac_mdct.proofs.fast.forward.Goals as goal

pub loop-k-preserved : goal.loop-k-preserved
loop-k-preserved c =
    let xs = c.args.prev.now ++ c.args.now.now in
    let w = c.spin_forward.new.out in
    let fits : SFits w32 c.coefficient_of.result = search rules in
    let fits_sum : SFits w64 c.power_sum.result = search rules in
    let chain = forward_chain xs c.windowed.new.out c.fold.new.out w c.loop-k.k c.loop-k-test.true c.windowed.ensures.value c.fold.ensures.value c.spin_forward.ensures.value in
    let sum : c.power_sum.result ≡ forward_sum (windowed (c.args.prev.now ++ c.args.now.now)) c.loop-k.k =
    c.power_sum.ensures.value ∙ ap (λ a. sigma 256 (λ b. slice_index_or w b (pos 0) *ℤ cosine_at (5 ^ (a + b)))) c.log.ensures.value ∙ chain in
    let is = simp to_z-of_z at c.coefficient_of.ensures in
    let value : c.coefficient_of.result ≡ coefficient (forward_sum (windowed (c.args.prev.now ++ c.args.now.now)) c.loop-k.k) = is ∙ ap coefficient sum in
    let room : c.loop-k.k < length c.loop-k.out = omega arith in (
      search rules,
      simp to_z-of_z (lists_more (λ k. coefficient (forward_sum (windowed xs) k)) c.loop-k.k c.loop-k.out c.coefficient_of.result room c.loop-k.invariant.1 value),
    )

pub returns-clause-bound : goal.returns-clause-bound
returns-clause-bound c = λ k below.
    subst (λ (z : ℤ). unsigned_abs z ≤ 2 ^ 24 - 1) (sym (c.loop-k.invariant.1 k (omega arith))) (coefficient_bound _)
