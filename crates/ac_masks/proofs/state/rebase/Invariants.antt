use Rattle.std.proofs.Common.{◌≡◌, ℕ, ◌+◌, ◌-◌, ◌<◌, ◌≤◌, length, slice_index}
use Rattle.std.specs.Prelude.{if◌then◌else◌, nat_le}
use Rattle.ac_alloc.specs.Excitation.{lowcomp}
use Rattle.ac_masks.specs.Steps.{leak_step, excite_step, base_step}
use Rattle.ac_masks.proofs.state.rebase.Given as goal

abbrev pub invariant-loop-l : goal.invariant-loop-l
invariant-loop-l l = record {
  long : length l.out ≡ 64;
  done : (i : ℕ) → i < l.l → slice_index l.out i ≡ base_step (slice_index l.initial.out i) (slice_index l.density i) l.knee l.threshold;
  bounds : (i : ℕ) → i < l.l → slice_index l.out i ≤ 2232;
  rest : (i : ℕ) → l.l ≤ i → slice_index l.out i ≡ slice_index l.initial.out i;
}
