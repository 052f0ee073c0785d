use Rattle.std.proofs.Common.{◌≡◌, ℕ, ◌<◌, ◌≤◌, ◌+◌, ◌-◌, ◌*◌, ◌^◌, slice_index}
use Rattle.ac_base.specs.Sigma.{sum_below}
use Rattle.ac_bound.specs.Ways.{potential}
use Rattle.ac_bound.proofs.bounds.rest.Given as goal

abbrev pub invariant-loop-c : goal.invariant-loop-c
invariant-loop-c l = record {
  value : (part : ℕ) → part < 3
      → slice_index l.rest part
      ≡ potential l.pots.p l.done part l.at + sum_below (l.c - l.done - 1) (λ i. potential l.pots.p (l.done + 1 + i) part 0);
  bound : (part : ℕ) → part < 3 → slice_index l.rest part ≤ (l.c - l.done) * 2 ^ 32;
}
