-- Some places of a block, from its sums (A/52 7.9.4.1, steps 5 and 6).
use Rattle.std.specs.Prelude.{◌≡◌, ◌⊎◌, ℕ, ◌+◌, ◌<◌, ◌≤◌, List, ℤ, pos, slice_index_or}
use Rattle.ac_base.specs.Window.{window_of}
use Rattle.ac_mdct.specs.Inverse.{part_of, sample_of}
use Rattle.ac_mdct.specs.Place.{unfolded}

-- the part of place n
abbrev pub part_at : List ℤ → ℕ → ℤ
part_at sums n = part_of (unfolded sums n) (window_of n)

-- the places from `from` to before `to` have their samples
abbrev pub IsSoundIn : ℕ → ℕ → List ℤ → List ℤ → List ℤ → Type 0
IsSoundIn from to sums delay out =
    (n : ℕ) → from ≤ n → n < to → slice_index_or out n (pos 0) ≡ sample_of (part_at sums n) (slice_index_or delay n (pos 0))

-- these places have what is left for the next block
abbrev pub IsDelayIn : ℕ → ℕ → List ℤ → List ℤ → Type 0
IsDelayIn from to sums delay = (n : ℕ) → from ≤ n → n < to → slice_index_or delay n (pos 0) ≡ part_at sums (n + 256)

-- all other places are as they were
abbrev pub StaysOut : ℕ → ℕ → List ℤ → List ℤ → Type 0
StaysOut from to old new = (n : ℕ) → (n < from) ⊎ (to ≤ n) → slice_index_or new n (pos 0) ≡ slice_index_or old n (pos 0)
