use Rattle.std.proofs.Common.{refl, sym, ◌∙◌, arith}
use Rattle.ac_alloc.proofs.Lists.{of_equal}
use Rattle.ac_masks.proofs.Adding.{rise_below}
use Rattle.ac_masks.proofs.additions.low_entries.Goals as goal

pub loop-x-init : goal.loop-x-init
loop-x-init c = record {
  long = refl;
  done = λ i l. of_equal 0 9633 i ∙ sym (rise_below i (omega arith));
}
