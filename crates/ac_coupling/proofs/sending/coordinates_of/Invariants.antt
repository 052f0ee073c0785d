use Rattle.std.proofs.Common.{◌≡◌, ◌<◌, ◌≤◌, ℕ, [], length, slice_index_or}
use Rattle.ac_energy.specs.Coefficients.{entry}
use Rattle.ac_coupling.specs.Coupling.{sent_coordinate}
use Rattle.ac_coupling.proofs.sending.coordinates_of.Given as goal

abbrev pub invariant-loop-c : goal.invariant-loop-c
invariant-loop-c l =
    (length l.of ≡ 5)
    × ((c : ℕ) → c < 5 → length (slice_index_or l.of c []) ≡ 18)
    × ((c : ℕ) → c < l.c → (band : ℕ) → band < 18 → slice_index_or (slice_index_or l.of c []) band (record { exp = 0; mant = 0 }) ≡ sent_coordinate l.coupled (entry l.coefs.c) c band)
    × ((c : ℕ) → l.c ≤ c → c < 5 → (band : ℕ) → band < 18 → slice_index_or (slice_index_or l.of c []) band (record { exp = 0; mant = 0 }) ≡ record { exp = 0; mant = 0 })
