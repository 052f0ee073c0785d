-- Potentials at sixteen offsets side by side. This project's own.
use Rattle.std.specs.Prelude.{◌≡◌, ℕ, ◌+◌, ◌-◌, ◌*◌, ◌^◌, ◌<◌, ◌≤◌, ◌⊎◌, List, [], slice_index, slice_index_or}
use Rattle.ac_base.specs.declared.shapes.Shape.{Shape}
use Rattle.ac_expo.specs.Raw.{channels}
use Rattle.ac_cost.specs.Records.{at_offset}
use Rattle.ac_bound.specs.Ways.{ArePots}
use Rattle.ac_bound.specs.Bounds.{lower_of, nothing}
use Rattle.ac_bound.specs.Roots.{IsClosed}
use Rattle.ac_ways.specs.declared.bracket.Bracket.{Bracket}

-- those of one of the offsets: by coded channel, part and boundary
abbrev pub ways_at : List (List (List (List ℕ))) → ℕ → ℕ → ℕ → ℕ → ℕ
ways_at p j c part at = slice_index (slice_index_or (slice_index_or (slice_index_or p c []) part []) at []) j

-- the offsets from t0 on
abbrev pub AreWays : Shape → List (List (List ℕ)) → ℕ → List (List (List (List ℕ))) → Type 0
AreWays shape raw t0 p = (j : ℕ) → j < 16 → ArePots (at_offset shape raw (t0 + j)) (ways_at p j)

-- none is more than the runs of six blocks can cost
abbrev pub AreFew : Shape → List (List (List (List ℕ))) → Type 0
AreFew shape p = (c part at j : ℕ) → c < channels shape → part < 3 → at ≤ 6 → j < 16 → ways_at p j c part at ≤ (6 - at) * 2 ^ 19

-- lower bounds where nothing is decided, by part and offset
abbrev pub total_at : List (List ℕ) → ℕ → ℕ → ℕ
total_at totals j part = slice_index (slice_index_or totals part []) j

abbrev pub AreTotals : Shape → List (List (List (List ℕ))) → List (List ℕ) → Type 0
AreTotals shape p totals = (part j : ℕ) → part < 3 → j < 16 → total_at totals j part ≡ lower_of shape (ways_at p j) nothing part

-- an open offset, and one from which on all are closed
pub record IsBracket (shape : Shape) (raw : List (List (List ℕ))) (bracket : Bracket) : Type 0 where
  pub order : bracket.low < bracket.high
  pub within : bracket.high ≤ 1024
  pub is_open : IsClosed shape raw bracket.low → ⊥
  pub above : (t : ℕ) → bracket.high ≤ t → t ≤ 1023 → IsClosed shape raw t

-- an offset isn't inside a bracket
abbrev pub IsOutside : Bracket → ℕ → Type 0
IsOutside bracket t = (t ≤ bracket.low) ⊎ (bracket.high ≤ t)
