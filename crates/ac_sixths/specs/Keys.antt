-- What the mantissa of a bin costs, in sixths of a bit, as one function of offset and key (A/52 7.2.2.7, 7.3), under the
-- lowest floor. The key is this project's own.
use Rattle.std.specs.Prelude.{◌≡◌, ℕ, ◌≤◌, ℤ, List, [], ◌∷◌, slice_index}
use Rattle.ac_alloc.specs.Keys.{pointer_above, sixths_by}

-- the sixths of a bit of one mantissa by its pointer, a group's bits shared among its members (A/52 7.3.5, Table 7.17)
abbrev pub weights : List ℕ
weights = 0 ∷ 10 ∷ 14 ∷ 18 ∷ 21 ∷ 24 ∷ 30 ∷ 36 ∷ 42 ∷ 48 ∷ 54 ∷ 60 ∷ 66 ∷ 72 ∷ 84 ∷ 96 ∷ []

abbrev pub weight : ℕ → ℕ
weight bap = slice_index weights bap

-- what a bin whose key is d above the offset costs
abbrev pub sixths : ℤ → ℕ
sixths d = weight (pointer_above d)

-- ---- laws
-- the weights are the sixths of tallies of one mantissa
abbrev pub WeightsAreSixths : Type 0
WeightsAreSixths = (bap : ℕ) → bap ≤ 15 → weight bap ≡ sixths_by bap
