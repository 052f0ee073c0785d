use Rattle.std.proofs.Common.{◌≡◌, ℕ, ◌+◌, ◌-◌, ◌<◌, ◌≤◌, length, slice_index}
use Rattle.std.specs.Prelude.{if◌then◌else◌, nat_le}
use Rattle.ac_alloc.specs.Excitation.{lowcomp}
use Rattle.ac_masks.specs.Steps.{leak_step, excite_step, base_step}
use Rattle.ac_masks.proofs.state.begin_behind.Given as goal

abbrev pub invariant-loop-l : goal.invariant-loop-l
invariant-loop-l l = record {
  long : length l.begin ≡ 64;
  done : (i : ℕ) → i < l.l → slice_index l.begin i ≡ (if nat_le (slice_index l.here i) (slice_index l.next i) then l.behind else slice_index l.initial.begin i);
  rest : (i : ℕ) → l.l ≤ i → slice_index l.begin i ≡ slice_index l.initial.begin i;
}
