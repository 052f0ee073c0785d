use Rattle.std.proofs.Common.{◌≡◌, ◌*◌, ◌^◌, ◌*ℤ◌, pos, length}
use Rattle.ac_noise.specs.Noise.{left_by, right_by, state_at}
use Rattle.ac_noise.specs.State.{IsFilled}
use Rattle.ac_noise.proofs.rows.fill.Given as goal

abbrev pub invariant-loop-t : goal.invariant-loop-t
invariant-loop-t l =
    (l.state ≡ state_at l.x (2 * l.t)) × (length l.left ≡ 1536) × (length l.right ≡ 1536)
    × IsFilled l.t (λ t. left_by (2 ^ l.step) l.x t *ℤ pos 256) l.fn.left l.left
    × IsFilled l.t (λ t. right_by (2 ^ l.step) l.x t *ℤ pos 256) l.fn.right l.right
