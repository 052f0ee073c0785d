-- The energies of a band's bins, as far as a sum of them has come.
use Rattle.std.specs.Prelude.{ℕ, ◌+◌, ◌<◌, ◌≤◌, ◌^◌, ℤ, ◌+ℤ◌, neg_ℤ, unsigned_abs}
use Rattle.ac_base.specs.Sigma.{sum_below}
use Rattle.ac_energy.specs.Energy.{square}
use Rattle.ac_energy.specs.Coefficients.{Channel}
use Rattle.ac_rematrix.specs.declared.energies.Energies.{Energies}

-- the energy of so many bins of a row
abbrev pub row_energy : (ℕ → ℤ) → ℕ → ℕ → ℕ
row_energy x start count = sum_below count (λ i. square (x (start + i)))

-- the energies, and those of the bins of one row more
abbrev pub with_row : Energies → (ℕ → ℤ) → (ℕ → ℤ) → ℕ → ℕ → Energies
with_row e l r start count = record {
  left = e.left + row_energy l start count;
  right = e.right + row_energy r start count;
  plus = e.plus + row_energy (λ k. l k +ℤ r k) start count;
  less = e.less + row_energy (λ k. l k +ℤ neg_ℤ (r k)) start count;
}

-- the energy of so many bins of the first blocks
abbrev pub blocks_energy : Channel → ℕ → ℕ → ℕ → ℕ
blocks_energy x start count blocks = sum_below blocks (λ b. row_energy (x b) start count)

-- those of two channels
abbrev pub blocks_energies : Channel → Channel → ℕ → ℕ → ℕ → Energies
blocks_energies l r start count blocks = record {
  left = blocks_energy l start count blocks;
  right = blocks_energy r start count blocks;
  plus = blocks_energy (λ b k. l b k +ℤ r b k) start count blocks;
  less = blocks_energy (λ b k. l b k +ℤ neg_ℤ (r b k)) start count blocks;
}

-- each of the four is at most m
pub record AreAtMost (m : ℕ) (e : Energies) : Type 0 where
  pub left : e.left ≤ m
  pub right : e.right ≤ m
  pub plus : e.plus ≤ m
  pub less : e.less ≤ m

-- so many bins of a row are below 2 ^ 24 in magnitude
abbrev pub AreSmallBins : (ℕ → ℤ) → ℕ → ℕ → Type 0
AreSmallBins x start count = (i : ℕ) → i < count → unsigned_abs (x (start + i)) < 2 ^ 24
