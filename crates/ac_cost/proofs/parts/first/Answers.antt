use Rattle.std.proofs.Common.{◌≡◌, ◌+◌, suc, slice_index, sym, ap, ◌∙◌, arith}
use Rattle.ac_base.specs.Sigma.{sum_below}
use Rattle.ac_base.proofs.ByRuns.{sum_none, sum_more}
use Rattle.ac_cost.proofs.parts.first.Goals as goal

pub loop-block-init : goal.loop-block-init
loop-block-init c = record { value = sym (sum_none (slice_index c.args.bits.now)); bound = omega arith }

pub loop-block-preserved : goal.loop-block-preserved
loop-block-preserved c =
    let b = c.loop-block.block in
    let f = slice_index c.args.bits.now in
    let e : b + 1 ≡ suc b = omega arith in
    let more : sum_below (b + 1) f ≡ sum_below b f + f b = ap (λ n. sum_below n f) e ∙ sum_more b f in
    record { value = omega (arith, c.loop-block.invariant.value, more); bound = omega (arith, c.loop-block.invariant.bound, c.requires.bound b) }
