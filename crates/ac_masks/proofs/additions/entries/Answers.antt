use Rattle.std.proofs.Common.{◌≡◌, ◌-◌, ◌∙◌, arith, length-set}
use Rattle.ac_alloc.proofs.Lists.{written_next}
use Rattle.ac_alloc.specs.Integration.{logadd}
use Rattle.ac_masks.specs.Adding.{most_sum}
use Rattle.ac_masks.proofs.Adding.{rise_above}
use Rattle.ac_masks.proofs.additions.entries.Goals as goal

pub loop-x-preserved : goal.loop-x-preserved
loop-x-preserved c =
    let x = c.loop-x.x in
    record {
      long = length-set c.loop-x.rises x (x - 5552) ∙ c.loop-x.invariant.long;
      done = written_next (λ i y. y ≡ logadd most_sum i - most_sum) 0 c.loop-x.rises x (x - 5552) (omega (arith, c.loop-x.invariant.long)) c.loop-x.invariant.done (rise_above x (omega arith));
    }
