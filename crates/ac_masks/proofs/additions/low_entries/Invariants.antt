use Rattle.std.proofs.Common.{◌≡◌, ℕ, ◌-◌, ◌<◌, ◌≤◌, length, slice_index}
use Rattle.ac_alloc.specs.Integration.{logadd}
use Rattle.ac_masks.specs.Adding.{most_sum}
use Rattle.ac_masks.proofs.additions.low_entries.Given as goal

abbrev pub invariant-loop-x : goal.invariant-loop-x
invariant-loop-x l = record {
  long : length l.rises ≡ 9633;
  done : (i : ℕ) → i < l.x → slice_index l.rises i ≡ logadd most_sum i - most_sum;
}
