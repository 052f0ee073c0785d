-- The coordinate that this encoder sends for a channel in a band of the coupling: the greatest factor by which the coupling channel
-- doesn't get more energy than the channel has (this project's own choice; what a coordinate stands for is A/52 7.4.3).
use Rattle.std.specs.Prelude.{◌≡◌, ℕ, zero, suc, ◌-◌, ◌*◌, ◌/◌, ◌%◌, ◌^◌, ◌≤◌, nat_le, if◌then◌else◌}
use Rattle.ac_coordinates.specs.Factor.{factor_of}
use Rattle.ac_coordinates.specs.declared.Coordinate.{Coordinate}

-- the factor of a coordinate, in units of 2 ^ -19 (A/52 7.4.3)
abbrev pub factor_at : Coordinate → ℕ
factor_at x = factor_of x.exp x.mant

-- a channel's coefficient is 8 times the coupling channel's, times the factor: with the factor v its energy is v * v * 64 / 2 ^ 38
-- of the coupling channel's, and not more than its own
abbrev pub IsWithin : ℕ → ℕ → ℕ → Type 0
IsWithin own shared v = v * v * 64 * shared ≤ own * 2 ^ 38

-- the coordinate of a channel with its own energy in a band, and the coupling channel's: of those within it, that with the greatest factor
pub record IsCoordinate (own shared : ℕ) (x : Coordinate) : Type 0 where
  pub exp_bound : x.exp ≤ 15
  pub mant_bound : x.mant ≤ 15
  pub within : IsWithin own shared (factor_at x)
  pub greatest : (exp mant : ℕ) → exp ≤ 15 → mant ≤ 15 → IsWithin own shared (factor_of exp mant) → factor_of exp mant ≤ factor_at x

-- coordinate n of the 256 in the order of their factors
abbrev pub coordinate_at : ℕ → Coordinate
coordinate_at n = record { exp = 15 - n / 16; mant = n % 16 }

-- the greatest number up to n of one that is within, by a search downwards
unfoldable pub greatest_within : ℕ → ℕ → ℕ → ℕ
greatest_within zero own shared = 0
greatest_within (suc n) own shared =
    let v = factor_at (coordinate_at (suc n)) in
    if nat_le (v * v * 64 * shared) (own * 2 ^ 38) then suc n else greatest_within n own shared

-- the coordinate
unfoldable pub coordinate_of : ℕ → ℕ → Coordinate
coordinate_of own shared = coordinate_at (greatest_within 255 own shared)

-- the search gives it: a law of these definitions
abbrev pub SearchGivesCoordinate : Type 0
SearchGivesCoordinate = (own shared : ℕ) → IsCoordinate own shared (coordinate_of own shared)

-- and there is one: a law of these definitions
abbrev pub CoordinateIsOne : Type 0
CoordinateIsOne = (own shared : ℕ) (x y : Coordinate) → IsCoordinate own shared x → IsCoordinate own shared y → x ≡ y
