-- The coupling of a frame (A/52 7.4): the coupling channel, the coordinates, and whether it is worth it. That the coupling channel is
-- the mean, and the test by energies, are this project's own.
use Rattle.std.specs.Prelude.{◌≡◌, ℕ, ◌+◌, ◌-◌, ◌*◌, ◌<◌, nat_lt, nat_eq, nat_le, if◌then◌else◌, Bool, Option, Some, None, [], length, slice_index_or}
use Rattle.ac_base.specs.declared.shapes.Shape.{Shape}
use Rattle.ac_base.specs.Floor.{floor_div}
use Rattle.ac_base.specs.Shape.{full_of, subbands, coupling_start, coupling_end}
use Rattle.ac_base.specs.Sigma.{sigma, sum_below}
use Rattle.ac_coordinates.specs.declared.Coordinate.{Coordinate}
use Rattle.ac_coordinates.specs.declared.Coordinates.{Coordinates}
use Rattle.ac_energy.specs.Coefficients.{Coefficients, Channel}
use Rattle.ac_energy.specs.Energy.{energy_of, AreSmallIn}
use Rattle.ac_coupling.specs.Coordinate.{coordinate_of}

-- the first bin of the coupling channel, and the one behind its last; 0 without coupling
abbrev pub start_of : Option (ℕ × ℕ) → ℕ
start_of None = 0
start_of (Some p) = coupling_start p.0

abbrev pub end_by : Option (ℕ × ℕ) → ℕ
end_by None = 0
end_by (Some p) = coupling_end p.1

-- the mean of the full channels, rounded downwards
abbrev pub mean_of : ℕ → Coefficients → Channel
mean_of full x b k = floor_div (sigma full (λ c. x c b k)) full

-- coefficients by coded channel: the full channels as they are, the coupling channel behind them, and then LFE
abbrev pub coupled_of : ℕ → Coefficients → Coefficients
coupled_of full x c b k = if nat_lt c full then x c b k else if nat_eq c full then mean_of full x b k else x (c - 1) b k

-- the energy of a channel in a band, which is a subband of 12 bins (A/52 7.4.2)
abbrev pub band_energy : Option (ℕ × ℕ) → Channel → ℕ → ℕ
band_energy couple x band = energy_of x (start_of couple + 12 * band) (start_of couple + 12 * band + 12)

-- the coordinate of a full channel in a band; exponent and mantissa 0 where none is sent
abbrev pub sent_coordinate : Shape → Coefficients → ℕ → ℕ → Coordinate
sent_coordinate shape x c band =
    if nat_lt c (full_of shape.acmod)
    then (if nat_lt band (subbands shape.couple)
    then coordinate_of (band_energy shape.couple (x c) band) (band_energy shape.couple (mean_of (full_of shape.acmod) x) band)
    else record { exp = 0; mant = 0 })
    else record { exp = 0; mant = 0 }

-- these are the coordinates of a frame
pub record AreCoordinates (shape : Shape) (x : Coefficients) (coords : Coordinates) : Type 0 where
  pub long : length coords.of ≡ 5
  pub rows : (c : ℕ) → c < 5 → length (slice_index_or coords.of c []) ≡ 18
  pub sent : (c band : ℕ) → c < 5 → band < 18
      → slice_index_or (slice_index_or coords.of c []) band (record { exp = 0; mant = 0 }) ≡ sent_coordinate shape x c band

-- the energy of the full channels in the coupling's range
abbrev pub full_energy : Shape → Coefficients → ℕ
full_energy shape x = sum_below (full_of shape.acmod) (λ c. energy_of (x c) (start_of shape.couple) (end_by shape.couple))

-- the coupling channel keeps a quarter of it at least: coupling is worth it
abbrev pub is_worth : Shape → Coefficients → Bool
is_worth shape x =
    nat_le (full_energy shape x)
    (4 * full_of shape.acmod * energy_of (mean_of (full_of shape.acmod) x) (start_of shape.couple) (end_by shape.couple))

-- the full channels are below 2 ^ 24 in magnitude in the coupling's range
abbrev pub AreSmallCoupled : Shape → Coefficients → Type 0
AreSmallCoupled shape x = (c : ℕ) → c < full_of shape.acmod → AreSmallIn (x c) (start_of shape.couple) (end_by shape.couple)
