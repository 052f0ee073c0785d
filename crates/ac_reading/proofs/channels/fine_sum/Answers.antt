use Rattle.std.proofs.Common.{◌≡◌, ◌+◌, ℕ, suc, arith, sym, ap, ap₂, ◌∙◌}
use Rattle.ac_base.specs.Sigma.{sum_below}
use Rattle.ac_base.proofs.ByRuns.{sum_more, sum_none}
use Rattle.ac_record.specs.Held.{fine_of}
use Rattle.ac_reading.proofs.channels.fine_sum.Goals as goal

pub loop-c-init : goal.loop-c-init
loop-c-init c = (sym (sum_none (fine_of c.args.head.now c.args.block.now)), omega arith)

pub loop-c-preserved : goal.loop-c-preserved
loop-c-preserved c =
    let f = fine_of c.args.head.now c.args.block.now in
    let next : suc c.loop-c.c ≡ c.loop-c.c + 1 = omega arith in
    (ap₂ (λ (a b : ℕ). a + b) c.loop-c.invariant.0 (c.from-sum.ensures ∙ c.fine.ensures) ∙ (sym (sum_more c.loop-c.c f) ∙ ap (λ (n : ℕ). sum_below n f) next), omega (arith, c.loop-c.invariant.1, c.from-sum.ensures))
