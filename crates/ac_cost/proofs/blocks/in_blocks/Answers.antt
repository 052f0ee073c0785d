use Rattle.std.proofs.Common.{◌≡◌, true, false, sym, ◌∙◌, arith}
use Rattle.ac_cost.specs.Runs.{has}
use Rattle.ac_cost.proofs.Covering.{blocks-none, blocks-more}
use Rattle.ac_cost.proofs.blocks.in_blocks.Goals as goal
use Rattle.ac_cost.proofs.blocks.in_blocks.Goals.{then-has, else-has}

pub loop-b-init : goal.loop-b-init
loop-b-init c = record { value = sym (blocks-none c.args.run.now c.args.cost); bound = omega arith }

pub loop-b-preserved : goal.loop-b-preserved
loop-b-preserved c =
    let b = c.loop-b.b in
    let more = blocks-more b c.args.run.now c.args.cost in
    let small = c.requires.cost in
    let so = c.loop-b.invariant in
    elim c.if-has.branch [
      | then-has w ↦
          let here : has c.args.run.now b ≡ true = sym c.has.ensures.value ∙ w.if-has.true in
          let m = more.0 here in
          record { value = omega (arith, w.sum-is, m, so.value); bound = omega (arith, w.sum-is, so.bound, small) }
      | else-has w ↦
          let here : has c.args.run.now b ≡ false = sym c.has.ensures.value ∙ w.if-has.false in
          let m = more.1 here in
          record { value = omega (arith, w.sum-is, m, so.value); bound = omega (arith, w.sum-is, so.bound) }
    ]
