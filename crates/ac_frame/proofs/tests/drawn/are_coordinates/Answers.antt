use Rattle.std.proofs.Common.{ℕ, ◌<◌, ◌≤◌, List, [], length, slice_index_or, subst, sym, inl, inr, arith, rules}
use Rattle.std.proofs.lemmas.Bool.{cases_lt}
use Rattle.std.proofs.lemmas.List.{get_or_past}
use Rattle.ac_coordinates.specs.declared.Coordinate.{Coordinate}
use Rattle.ac_frame.proofs.tests.drawn.are_coordinates.Goals as goal

-- what holds of each row, and of a row that isn't there, holds everywhere
everywhere : (P : List Coordinate → Type 0) (rows : List (List Coordinate)) (n : ℕ) → length rows ≤ n → P [] → ((i : ℕ) → i < n → P (slice_index_or rows i [])) → (i : ℕ) → P (slice_index_or rows i [])
everywhere P rows n long none here i =
    elim (cases_lt i n) [
      | inl l ↦ here i l
      | inr l ↦ subst P (sym (get_or_past rows i [] (omega (arith, long, l)))) none
    ]

abbrev Small : List Coordinate → Type 0
Small row = (k : ℕ) → ((slice_index_or row k (record { exp = 0; mant = 0 })).exp ≤ 15) × ((slice_index_or row k (record { exp = 0; mant = 0 })).mant ≤ 15)

pub returns : goal.returns
returns c = λ t i k. everywhere Small c.args.rows.now 5 (search rules) (λ j. (omega arith, omega arith)) (λ j l. c.loop-i.invariant j (omega arith)) i k
