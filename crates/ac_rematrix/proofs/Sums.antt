-- Sums of squares, one more, and their bounds.
use Rattle.std.proofs.Common.{◌≡◌, ℕ, zero, suc, ◌+◌, ◌*◌, ◌^◌, ◌<◌, ◌≤◌, ℤ, ◌+ℤ◌, unsigned_abs, neg_ℤ, arith, add-one, refl, ap, subst, ◌∙◌}
use Rattle.std.proofs.lemmas.Int.{ints}
use Rattle.std.proofs.lemmas.Nat.{mul-le}
use Rattle.ac_base.specs.Sigma.{sum_below}
use Rattle.ac_base.proofs.ByRuns.{sum_more, sum_none}
use Rattle.ac_energy.specs.Energy.{square}
use Rattle.ac_energy.specs.Coefficients.{Channel}
use Rattle.ac_rematrix.specs.declared.energies.Energies.{Energies}
use Rattle.ac_rematrix.specs.Energies.{row_energy, with_row, blocks_energies, AreAtMost, AreSmallBins}

pub sum_next : (n : ℕ) (f : ℕ → ℕ) → sum_below (n + 1) f ≡ sum_below n f + f n
sum_next n f = rw add-one (sum_more n f)

sum_bound : (m n : ℕ) (f : ℕ → ℕ) → ((i : ℕ) → i < n → f i ≤ m) → sum_below n f ≤ n * m
sum_bound m zero f each = omega (arith, sum_none f)
sum_bound m (suc n) f each = omega (arith, sum_more n f, sum_bound m n f (λ i l. each i (omega arith)), each n (omega arith))

square_bound : (x : ℤ) → unsigned_abs x < 2 ^ 25 → square x ≤ 2 ^ 50
square_bound x small = mul-le (unsigned_abs x) (unsigned_abs x) (2 ^ 25) (2 ^ 25) (omega arith) (omega arith)

-- ---- the four energies

same_energies : (a b : Energies) → a.left ≡ b.left → a.right ≡ b.right → a.plus ≡ b.plus → a.less ≡ b.less → a ≡ b
same_energies a b p q s t =
    ap (λ (x : ℕ). record { left = x; right = a.right; plus = a.plus; less = a.less }) p
    ∙ ap (λ (x : ℕ). record { left = b.left; right = x; plus = a.plus; less = a.less }) q
    ∙ ap (λ (x : ℕ). record { left = b.left; right = b.right; plus = x; less = a.less }) s
    ∙ ap (λ (x : ℕ). record { left = b.left; right = b.right; plus = b.plus; less = x }) t

-- those of a bin more
pub row_more : (e sums next : Energies) (l r : ℕ → ℤ) (start i : ℕ) → sums ≡ with_row e l r start i
    → next.left ≡ sums.left + square (l (start + i)) → next.right ≡ sums.right + square (r (start + i))
    → next.plus ≡ sums.plus + square (l (start + i) +ℤ r (start + i)) → next.less ≡ sums.less + square (l (start + i) +ℤ neg_ℤ (r (start + i)))
    → next ≡ with_row e l r start (i + 1)
row_more e sums next l r start i before p q s t =
    same_energies next (with_row e l r start (i + 1))
    (omega (arith, p, ap (λ (x : Energies). x.left) before, sum_next i (λ j. square (l (start + j)))))
    (omega (arith, q, ap (λ (x : Energies). x.right) before, sum_next i (λ j. square (r (start + j)))))
    (omega (arith, s, ap (λ (x : Energies). x.plus) before, sum_next i (λ j. square (l (start + j) +ℤ r (start + j)))))
    (omega (arith, t, ap (λ (x : Energies). x.less) before, sum_next i (λ j. square (l (start + j) +ℤ neg_ℤ (r (start + j))))))

-- the bound of a row
pub row_bound : (l r : ℕ → ℤ) (start i count m : ℕ) (e : Energies) → AreSmallBins l start count → AreSmallBins r start count → i ≤ count → AreAtMost m e → AreAtMost (m + i * 2 ^ 50) (with_row e l r start i)
row_bound l r start i count m e small_l small_r le within = record {
  left = omega (arith, within.left, sum_bound (2 ^ 50) i (λ j. square (l (start + j))) (λ j h. square_bound (l (start + j)) (omega (arith, small_l j (omega arith)))));
  right = omega (arith, within.right, sum_bound (2 ^ 50) i (λ j. square (r (start + j))) (λ j h. square_bound (r (start + j)) (omega (arith, small_r j (omega arith)))));
  plus = omega (arith, within.plus, sum_bound (2 ^ 50) i (λ j. square (l (start + j) +ℤ r (start + j))) (λ j h. let a = small_l j (omega arith) in let b = small_r j (omega arith) in square_bound (l (start + j) +ℤ r (start + j)) (omega (arith, ints))));
  less = omega (arith, within.less, sum_bound (2 ^ 50) i (λ j. square (l (start + j) +ℤ neg_ℤ (r (start + j)))) (λ j h. let a = small_l j (omega arith) in let b = small_r j (omega arith) in square_bound (l (start + j) +ℤ neg_ℤ (r (start + j))) (omega (arith, ints))));
}

-- and of no bin
pub row_none : (e : Energies) (l r : ℕ → ℤ) (start : ℕ) → e ≡ with_row e l r start 0
row_none e l r start =
    same_energies e (with_row e l r start 0)
    (omega (arith, sum_none (λ j. square (l (start + j)))))
    (omega (arith, sum_none (λ j. square (r (start + j)))))
    (omega (arith, sum_none (λ j. square (l (start + j) +ℤ r (start + j)))))
    (omega (arith, sum_none (λ j. square (l (start + j) +ℤ neg_ℤ (r (start + j))))))

pub at_most_more : (m n : ℕ) (e : Energies) → m ≤ n → AreAtMost m e → AreAtMost n e
at_most_more m n e le h = record { left = omega (arith, h.left); right = omega (arith, h.right); plus = omega (arith, h.plus); less = omega (arith, h.less) }

-- ---- block after block

pub blocks_none : (l r : Channel) (start count : ℕ) → record { left = 0; right = 0; plus = 0; less = 0 } ≡ blocks_energies l r start count 0
blocks_none l r start count =
    same_energies (record { left = 0; right = 0; plus = 0; less = 0 }) (blocks_energies l r start count 0)
    (omega (arith, sum_none (λ b. row_energy (l b) start count)))
    (omega (arith, sum_none (λ b. row_energy (r b) start count)))
    (omega (arith, sum_none (λ b. row_energy (λ k. l b k +ℤ r b k) start count)))
    (omega (arith, sum_none (λ b. row_energy (λ k. l b k +ℤ neg_ℤ (r b k)) start count)))

pub blocks_more : (sums next : Energies) (l r : Channel) (start count b : ℕ) → sums ≡ blocks_energies l r start count b
    → next ≡ with_row sums (l b) (r b) start count → next ≡ blocks_energies l r start count (b + 1)
blocks_more sums next l r start count b before now =
    same_energies next (blocks_energies l r start count (b + 1))
    (omega (arith, ap (λ (x : Energies). x.left) now, ap (λ (x : Energies). x.left) before, sum_next b (λ a. row_energy (l a) start count)))
    (omega (arith, ap (λ (x : Energies). x.right) now, ap (λ (x : Energies). x.right) before, sum_next b (λ a. row_energy (r a) start count)))
    (omega (arith, ap (λ (x : Energies). x.plus) now, ap (λ (x : Energies). x.plus) before, sum_next b (λ a. row_energy (λ k. l a k +ℤ r a k) start count)))
    (omega (arith, ap (λ (x : Energies). x.less) now, ap (λ (x : Energies). x.less) before, sum_next b (λ a. row_energy (λ k. l a k +ℤ neg_ℤ (r a k)) start count)))

pub blocks_bound : (l r : Channel) (start count b : ℕ) → ((a : ℕ) → a < 6 → AreSmallBins (l a) start count) → ((a : ℕ) → a < 6 → AreSmallBins (r a) start count)
    → count ≤ 256 → b ≤ 6 → AreAtMost (b * 2 ^ 58) (blocks_energies l r start count b)
blocks_bound l r start count zero small_l small_r few in_frame = subst (AreAtMost (zero * 2 ^ 58)) (blocks_none l r start count) (record { left = omega arith; right = omega arith; plus = omega arith; less = omega arith })
blocks_bound l r start count (suc b) small_l small_r few in_frame =
    let before = blocks_energies l r start count b in
    let next = with_row before (l b) (r b) start count in
    let within = blocks_bound l r start count b small_l small_r few (omega arith) in
    let bound = row_bound (l b) (r b) start count count (b * 2 ^ 58) before (small_l b (omega arith)) (small_r b (omega arith)) (omega arith) within in
    let same = blocks_more before next l r start count b refl refl in
    let one : b + 1 ≡ suc b = omega arith in
    subst (λ (n : ℕ). AreAtMost (n * 2 ^ 58) (blocks_energies l r start count n)) one (subst (AreAtMost ((b + 1) * 2 ^ 58)) same (at_most_more (b * 2 ^ 58 + count * 2 ^ 50) ((b + 1) * 2 ^ 58) next (omega arith) bound))
