use Rattle.std.proofs.Common.{ℕ, ◌<◌, ◌≤◌, [], slice_index_or}
use Rattle.ac_frame.proofs.tests.drawn.are_coordinates.Given as goal

abbrev pub invariant-loop-i : goal.invariant-loop-i
invariant-loop-i l =
    (i : ℕ) → i < l.i → (k : ℕ) → ((slice_index_or (slice_index_or l.rows i []) k (record { exp = 0; mant = 0 })).exp ≤ 15)
    × ((slice_index_or (slice_index_or l.rows i []) k (record { exp = 0; mant = 0 })).mant ≤ 15)
