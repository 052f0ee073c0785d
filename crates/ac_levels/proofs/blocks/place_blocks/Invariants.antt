use Rattle.std.proofs.Common.{◌≡◌, ℕ, ◌<◌, ◌≤◌, [], length, slice_index_or}
use Rattle.ac_levels.specs.Reach.{AreSteps, IsBlank}
use Rattle.ac_levels.proofs.blocks.place_blocks.Given as goal

abbrev pub invariant-loop-b : goal.invariant-loop-b
invariant-loop-b l =
    (length l.steps ≡ 6)
    × ((b : ℕ) → b < l.b → AreSteps 1 l.span l.raw b (slice_index_or l.steps b []))
    × ((b : ℕ) → l.b ≤ b → b < 6 → IsBlank (slice_index_or l.steps b []))
