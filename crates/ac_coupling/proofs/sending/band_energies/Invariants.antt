use Rattle.std.proofs.Common.{◌≡◌, ◌+◌, ◌*◌, ◌<◌, ℕ, length, slice_index}
use Rattle.ac_energy.specs.Coefficients.{cell_of}
use Rattle.ac_energy.specs.Energy.{energy_of}
use Rattle.ac_coupling.proofs.sending.band_energies.Given as goal

abbrev pub invariant-loop-band : goal.invariant-loop-band
invariant-loop-band l =
    (length l.energies ≡ 18)
    × ((band : ℕ) → band < l.band → slice_index l.energies band ≡ energy_of (cell_of l.rows) (l.range.start + 12 * band) (l.range.start + 12 * band + 12))
