-- Two rows or two channels as half their sum and half their difference in some bins.
use Rattle.std.specs.Prelude.{◌≡◌, ℕ, ◌<◌, ◌≤◌, ◌⊎◌, ℤ, ◌+ℤ◌, neg_ℤ, Bool, true, false, List, [], slice_index_or}
use Rattle.ac_energy.specs.Coefficients.{Channel, cell_of}
use Rattle.ac_rematrix.specs.Rematrix.{half_of}

-- the new rows have those from `start` up to the bin before `end`, and are as before elsewhere
pub record AreHalved (start end : ℕ) (l r left right : ℕ → ℤ) : Type 0 where
  pub sums : (k : ℕ) → start ≤ k → k < end → left k ≡ half_of (l k +ℤ r k)
  pub differences : (k : ℕ) → start ≤ k → k < end → right k ≡ half_of (l k +ℤ neg_ℤ (r k))
  pub left_rest : (k : ℕ) → (k < start) ⊎ (end ≤ k) → left k ≡ l k
  pub right_rest : (k : ℕ) → (k < start) ⊎ (end ≤ k) → right k ≡ r k

-- in each of the first blocks
abbrev pub AreHalvedIn : ℕ → ℕ → ℕ → Channel → Channel → Channel → Channel → Type 0
AreHalvedIn blocks start end l r left right = (b : ℕ) → b < blocks → AreHalved start end (l b) (r b) (left b) (right b)

-- two channels are so where a flag is set, and else as before
pub record IsBandDone (flag : Bool) (start end : ℕ) (old new : List (List (List ℤ))) : Type 0 where
  pub set : flag ≡ true
      → AreHalvedIn 6 start end (cell_of (slice_index_or old 0 [])) (cell_of (slice_index_or old 1 []))
      (cell_of (slice_index_or new 0 [])) (cell_of (slice_index_or new 1 []))
  pub clear : flag ≡ false → (c : ℕ) → slice_index_or new c [] ≡ slice_index_or old c []
  pub others : (c : ℕ) → 2 ≤ c → slice_index_or new c [] ≡ slice_index_or old c []
