use Rattle.std.proofs.Common.{◌≡◌, ◌<◌, ◌≤◌, ℕ, length, slice_index, slice_index_or}
use Rattle.ac_coupling.specs.Coordinate.{coordinate_of}
use Rattle.ac_coupling.proofs.sending.channel_coordinates.Given as goal

abbrev pub invariant-loop-band : goal.invariant-loop-band
invariant-loop-band l =
    (length l.coordinates ≡ 18)
    × ((band : ℕ) → band < l.band → slice_index_or l.coordinates band (record { exp = 0; mant = 0 }) ≡ coordinate_of (slice_index l.own band) (slice_index l.shared band))
    × ((band : ℕ) → l.band ≤ band → band < 18 → slice_index_or l.coordinates band (record { exp = 0; mant = 0 }) ≡ record { exp = 0; mant = 0 })
