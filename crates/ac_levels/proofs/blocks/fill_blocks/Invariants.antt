use Rattle.std.proofs.Common.{◌≡◌, ℕ, ◌+◌, ◌<◌, List, [], length, slice_index_or}
use Rattle.ac_levels.specs.Reach.{AreSteps, IsZeroOutside}
use Rattle.ac_levels.specs.Rows.{AreLevels}
use Rattle.ac_levels.proofs.blocks.fill_blocks.Given as goal

abbrev pub invariant-loop-b : goal.invariant-loop-b
invariant-loop-b l =
    (length l.blocks ≡ 6)
    × ((raw : List (List ℕ)) (b : ℕ) → b < l.b → AreSteps l.kind l.span raw b (slice_index_or l.steps b []) → AreLevels l.kind l.span raw b (b + 1) (slice_index_or l.blocks b []))
    × IsZeroOutside l.n l.scratch.odd
    × IsZeroOutside l.n l.scratch.even
