-- Counts of mantissas as the tallies of `ac_base` (A/52 7.3.5).
use Rattle.std.specs.Prelude.{ℕ, ◌*◌, ◌<◌, ◌≤◌}
use Rattle.ac_base.specs.Counts.{Tally, exact_of, sixths_of}
use Rattle.ac_mant.specs.declared.counts.Counts.{Counts}

abbrev pub tally : Counts → Tally
tally c = record { linear = c.linear; n1 = c.n1; n2 = c.n2; n4 = c.n4 }

-- each count is at most this
abbrev pub AreWithin : ℕ → Counts → Type 0
AreWithin most c = (c.linear ≤ most) × (c.n1 ≤ most) × (c.n2 ≤ most) × (c.n4 ≤ most)

-- laws: six times the exact cost is at least the sixths
abbrev pub SixthsAreWithin : Type 0
SixthsAreWithin = (c : Counts) → sixths_of (tally c) ≤ 6 * exact_of (tally c)

-- and the exact cost can fall where the sixths rise: as the SNR offset rises, pointers rise, and two groups may become one
pub record CanFall (before after : Counts) : Type 0 where
  pub rises : sixths_of (tally before) < sixths_of (tally after)
  pub falls : exact_of (tally after) < exact_of (tally before)

abbrev pub ExactCostCanFall : Type 0
ExactCostCanFall = CanFall (record { linear = 0; n1 = 1; n2 = 2; n4 = 0 }) (record { linear = 0; n1 = 0; n2 = 3; n4 = 0 })
