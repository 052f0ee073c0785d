-- One entry more, and one row more.
use Rattle.std.proofs.Common.{◌≡◌, ◌≢◌, ℕ, ◌+◌, ◌<◌, ◌≤◌, ℤ, pos, List, length, slice_index_or, unsigned_abs, arith, below_more, get_or-set_other, get_or-set_same, ◌∙◌}
use Rattle.std.proofs.Math.ListN.{set, length-set}
use Rattle.ac_base.specs.Sigma.{Within, Lists}
use Rattle.ac_convolution.specs.Rows.{Rows, RowsWithin}

pub lists_more : (f : ℕ → ℤ) (n : ℕ) (xs : List ℤ) (z : ℤ) → n < length xs → Lists n f xs → z ≡ f n → Lists (n + 1) f (set xs n z)
lists_more f n xs z room before here =
    below_more _ n
    (λ k h. let ne : k ≢ n = omega arith in rw get_or-set_other (before k h))
    (rw get_or-set_same here)

pub within_more : (m n : ℕ) (xs : List ℤ) (z : ℤ) → n < length xs → Within m n xs → unsigned_abs z ≤ m → Within m (n + 1) (set xs n z)
within_more m n xs z room before here =
    below_more _ n
    (λ k h. let ne : k ≢ n = omega arith in rw get_or-set_other (before k h))
    (rw get_or-set_same here)

pub more : (size m n : ℕ) (f : ℕ → ℤ) (xs : List ℤ) (z : ℤ) → n < size → (length xs ≡ size) × Lists n f xs × Within m n xs → z ≡ f n → unsigned_abs z ≤ m → (length (set xs n z) ≡ size) × Lists (n + 1) f (set xs n z) × Within m (n + 1) (set xs n z)
more size m n f xs z below before value bound =
    let room : n < length xs = omega arith in (
      length-set xs n z ∙ before.0,
      lists_more f n xs z room before.1 value,
      within_more m n xs z room before.2 bound,
    )

pub rows_more : (size width m n : ℕ) (f : ℕ → ℕ → ℤ) (rows : List (List ℤ)) (new : List ℤ) → n < size → (length rows ≡ size) × Rows n width f rows × RowsWithin m n width rows → Lists width (f n) new → Within m width new → (length (set rows n new) ≡ size) × Rows (n + 1) width f (set rows n new) × RowsWithin m (n + 1) width (set rows n new)
rows_more size width m n f rows new below before value bound =
    let room : n < length rows = omega arith in (
      length-set rows n new ∙ before.0,
      below_more _ n
          (λ k h. let ne : k ≢ n = omega arith in rw get_or-set_other (before.1 k h))
          (rw get_or-set_same value),
      below_more _ n
          (λ k h. let ne : k ≢ n = omega arith in rw get_or-set_other (before.2 k h))
          (rw get_or-set_same bound),
    )

-- rows of the same numbers
pub rows_same : (n width : ℕ) (f g : ℕ → ℕ → ℤ) (rows : List (List ℤ)) → Rows n width f rows → ((r k : ℕ) → r < n → k < width → f r k ≡ g r k) → Rows n width g rows
rows_same n width f g rows are same r below k within = are r below k within ∙ same r k below within

-- one entry anew, with those after it as they were
pub anew : (size n : ℕ) (f : ℕ → ℤ) (old xs : List ℤ) (z : ℤ) → n < size → (length xs ≡ size) × Lists n f xs × ((j : ℕ) → n ≤ j → slice_index_or xs j (pos 0) ≡ slice_index_or old j (pos 0)) → z ≡ f n → (length (set xs n z) ≡ size) × Lists (n + 1) f (set xs n z) × ((j : ℕ) → n + 1 ≤ j → slice_index_or (set xs n z) j (pos 0) ≡ slice_index_or old j (pos 0))
anew size n f old xs z below before value =
    let room : n < length xs = omega arith in (
      length-set xs n z ∙ before.0,
      lists_more f n xs z room before.1 value,
      (λ j later. let ne : j ≢ n = omega arith in rw get_or-set_other (before.2 j (omega arith))),
    )

-- one row more, whatever its bound
pub row_anew : (size width n : ℕ) (f : ℕ → ℕ → ℤ) (rows : List (List ℤ)) (new : List ℤ) → n < size → (length rows ≡ size) × Rows n width f rows → Lists width (f n) new → (length (set rows n new) ≡ size) × Rows (n + 1) width f (set rows n new)
row_anew size width n f rows new below before value =
    let room : n < length rows = omega arith in (
      length-set rows n new ∙ before.0,
      below_more _ n
          (λ k h. let ne : k ≢ n = omega arith in rw get_or-set_other (before.1 k h))
          (rw get_or-set_same value),
    )
