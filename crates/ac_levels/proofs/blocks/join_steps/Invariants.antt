use Rattle.std.proofs.Common.{◌≡◌, ℕ, ◌+◌, ◌*◌, ◌<◌, ◌≤◌, [], length, slice_index_or}
use Rattle.ac_levels.specs.Reach.{ArePairs, IsBlank}
use Rattle.ac_levels.proofs.blocks.join_steps.Given as goal

abbrev pub invariant-loop-b : goal.invariant-loop-b
invariant-loop-b l =
    (length l.new ≡ 6)
    × ((b : ℕ) → b < l.b → ArePairs (16 * l.rounds + 1) (slice_index_or l.old b []) (slice_index_or l.new b []))
    × ((b : ℕ) → l.b ≤ b → b < 6 → IsBlank (slice_index_or l.new b []))
