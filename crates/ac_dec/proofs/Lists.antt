-- Parts, delays and samples are told by the first 256 coefficients of each block.
use Rattle.std.proofs.Common.{◌≡◌, ℕ, zero, suc, ◌+◌, ◌^◌, ◌-◌, ◌<◌, ◌≤◌, List, ℤ, pos, slice_index_or, unsigned_abs, refl, ap, ap₂, arith}
use Rattle.std.specs.Prelude.{neg_ℤ, ◌+ℤ◌, ◌*ℤ◌}
use Rattle.std.specs.Int.{int_max, int_min}
use Rattle.std.proofs.lemmas.Int.{ints}
use Rattle.std.proofs.lemmas.List.FromFn.{get_or-map-range_with_len}
use Rattle.ac_base.specs.Cosine.{cosine_at}
use Rattle.ac_base.specs.Floor.{floor_div}
use Rattle.ac_base.specs.Window.{window_of}
use Rattle.ac_base.proofs.Rearranged.{sigma_same}
use Rattle.ac_mdct.specs.Forward.{phase}
use Rattle.ac_mdct.specs.Inverse.{part_of, part, sample_of}
use Rattle.ac_dec.specs.Sound.{block_list, delay_at, sample_at}

pub at_list : (x : ℕ → ℕ → ℤ) (b k : ℕ) → k < 256 → slice_index_or (block_list x b) k (pos 0) ≡ x b k
at_list x b k lt = get_or-map-range_with_len (x b) 0 256 k k (pos 0) lt (omega arith)

-- the first 256 are the same
abbrev pub SameFront : List ℤ → List ℤ → Type 0
SameFront xs ys = (k : ℕ) → k < 256 → slice_index_or xs k (pos 0) ≡ slice_index_or ys k (pos 0)

pub part_same : (xs ys : List ℤ) → SameFront xs ys → (n : ℕ) → part xs n ≡ part ys n
part_same xs ys same n =
    ap (λ (t : ℤ). part_of t (window_of n))
    (sigma_same 256 (λ k. slice_index_or xs k (pos 0) *ℤ cosine_at (phase k n)) (λ k. slice_index_or ys k (pos 0) *ℤ cosine_at (phase k n))
    (λ k lt. ap (λ (z : ℤ). z *ℤ cosine_at (phase k n)) (same k lt)))

pub delay_same : (first : List ℤ) (x y : ℕ → List ℤ) (n : ℕ) → ((b : ℕ) → b < n → SameFront (x b) (y b)) → (t : ℕ) → delay_at first x n t ≡ delay_at first y n t
unfolding delay_at
delay_same first x y zero same t = refl
delay_same first x y (suc n) same t = part_same (x n) (y n) (same n (omega arith)) (t + 256)

pub sample_same : (first : List ℤ) (x y : ℕ → List ℤ) (n : ℕ) → ((b : ℕ) → b ≤ n → SameFront (x b) (y b)) → (t : ℕ) → sample_at first x n t ≡ sample_at first y n t
sample_same first x y n same t = ap₂ sample_of (part_same (x n) (y n) (same n (omega arith)) t) (delay_same first x y n (λ b lt. same b (omega arith)) t)

pub delay_first : (first : List ℤ) (x : ℕ → List ℤ) (t : ℕ) → delay_at first x 0 t ≡ slice_index_or first t (pos 0)
unfolding delay_at
delay_first first x t = refl

pub delay_next : (first : List ℤ) (x : ℕ → List ℤ) (n t : ℕ) → delay_at first x (n + 1) t ≡ part (x n) (t + 256)
unfolding delay_at
delay_next first x n t = let e : n + 1 ≡ suc n = omega arith in ap (λ (m : ℕ). delay_at first x m t) e

-- a sample has 24 bits
between : (z : ℤ) → unsigned_abs (int_max (neg_ℤ (pos (2 ^ 23))) (int_min z (pos (2 ^ 23 - 1)))) ≤ 2 ^ 23
between z = grind (arith, ints)

pub sample_within : (p d : ℤ) → unsigned_abs (sample_of p d) ≤ 2 ^ 23
unfolding sample_of
sample_within p d = between (floor_div ((p +ℤ d) +ℤ pos (2 ^ 22)) (2 ^ 23))
