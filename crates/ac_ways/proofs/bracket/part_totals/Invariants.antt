use Rattle.std.proofs.Common.{◌≡◌, ℕ, ◌+◌, ◌*◌, ◌^◌, ◌<◌, ◌≤◌, slice_index}
use Rattle.ac_base.specs.Sigma.{sum_below}
use Rattle.ac_ways.specs.Sixteen.{ways_at}
use Rattle.ac_ways.proofs.bracket.part_totals.Given as goal

abbrev pub invariant-loop-c : goal.invariant-loop-c
invariant-loop-c l = record {
  value : (j : ℕ) → j < 16 → slice_index l.totals j ≡ 6 * l.side + sum_below l.c (λ d. ways_at l.ways.p j d l.part 0);
  bound : (j : ℕ) → j < 16 → slice_index l.totals j ≤ (6 + l.c) * 2 ^ 32;
}
