use Rattle.std.proofs.Common.{◌≡◌, ◌+◌, ◌*◌, ◌≤◌, length}
use Rattle.ac_expo.specs.Groups.{sum_to}
use Rattle.ac_expo.specs.Sums.{AreSums}
use Rattle.ac_expo.proofs.expanding.sums_of.Given as goal

abbrev pub invariant-loop-place : goal.invariant-loop-place
invariant-loop-place l =
    (length l.sums ≡ 256)
    × AreSums l.fn.lead l.spelled (3 * l.place) l.sums
    × (l.sum ≡ sum_to l.fn.lead l.spelled (3 * l.place))
    × (l.sum ≤ 30 + 30 * l.place)
