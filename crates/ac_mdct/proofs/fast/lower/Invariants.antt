use Rattle.std.proofs.Common.{◌≡◌, ◌<◌, ◌≤◌, ◌⊎◌, ◌+◌, ◌^◌, ℕ, pos, length, slice_index_or}
use Rattle.ac_base.specs.Sigma.{Within}
use Rattle.ac_mdct.specs.Overlap.{IsSoundIn, IsDelayIn, StaysOut}
use Rattle.ac_mdct.proofs.fast.lower.Given as goal

abbrev pub invariant-loop-n : goal.invariant-loop-n
invariant-loop-n l =
    (length l.out ≡ 256)
    × (length l.delay ≡ 256)
    × IsSoundIn 0 l.n l.sums l.fn.delay l.out
    × IsDelayIn 0 l.n l.sums l.delay
    × StaysOut 0 l.n l.fn.out l.out
    × StaysOut 0 l.n l.fn.delay l.delay
    × Within (2 ^ 55) 256 l.delay
