-- The root is the greatest, and the bounds of the recurrence.
use Rattle.std.proofs.Common.{◌≡◌, ◌≢◌, ℕ, zero, suc, ◌+◌, ◌-◌, ◌*◌, ◌/◌, ◌^◌, ◌<◌, ◌≤◌, min, Bool, true, false, leb, cond, refl, arith, add-one, inl, inr, ℤ, pos, List, length, slice_index_or, below_more, get_or-set_other, get_or-set_same}
use Rattle.std.proofs.Math.ListN.{set}
use Rattle.std.proofs.lemmas.Bool.{leb-true, leb-false, cases_lt}
use Rattle.std.proofs.lemmas.Nat.{mul-le}
use Rattle.std.proofs.Math.Nat.{pow-suc}
use Rattle.ac_base.specs.Quarter.{root, half, angle, pair_at, cosine_of}

-- the first n entries of the list are those of the table
abbrev pub Holds : ℕ → List ℤ → Type 0
Holds n cs = (j : ℕ) → j < n → slice_index_or cs j (pos 0) ≡ pos (cosine_of j)

abbrev IsRoot : ℕ → ℕ → Type 0
IsRoot r x = (r * r ≤ x) × (x < (r + 1) * (r + 1))

-- one binary digit more
root_digit : (b : Bool) (r x : ℕ) → leb ((2 * r + 1) * (2 * r + 1)) x ≡ b → IsRoot r (x / 4) → IsRoot (cond b (2 * r + 1) (2 * r)) x
root_digit true r x odd is = let square = leb-true _ _ odd in (omega arith, omega arith)
root_digit false r x even is = let square = leb-false _ _ even in (omega arith, omega arith)

pub root_is_root : (k x : ℕ) → x < 4 ^ k → IsRoot (root k x) x
unfolding root
root_is_root zero x below = (omega arith, omega arith)
root_is_root (suc k) x below =
    let quarter : x / 4 < 4 ^ k = let p = pow-suc 4 k in omega (arith, p) in
    root_digit _ (root k (x / 4)) x refl (root_is_root k (x / 4) quarter)

-- two roots of one number are the same
pub root_unique : (r s x : ℕ) → IsRoot r x → IsRoot s x → r ≡ s
root_unique r s x is_r is_s =
    elim (cases_lt r s) [
      | inl less ↦ let p = mul-le (r + 1) (r + 1) s s (omega arith) (omega arith) in absurd (omega arith)
      | inr more ↦
          elim (cases_lt s r) [
            | inl less ↦ let p = mul-le (s + 1) (s + 1) r r (omega arith) (omega arith) in absurd (omega arith)
            | inr more' ↦ omega arith
          ]
    ]

-- a root of a number below 2 ^ 120 is below 2 ^ 60 + 1
pub root_is : (r x : ℕ) → x < 2 ^ 128 → r * r ≤ x → x < (r + 1) * (r + 1) → r ≡ root 64 x
root_is r x fits low high = root_unique r (root 64 x) x (low, high) (root_is_root 64 x fits)

pub root_bound : (r x : ℕ) → r * r ≤ x → x ≤ 2 ^ 120 → r ≤ 2 ^ 60
root_bound r x low small =
    elim (cases_lt (2 ^ 60) r) [
      | inl above ↦ let p = mul-le (2 ^ 60 + 1) (2 ^ 60 + 1) r r (omega arith) (omega arith) in absurd (omega arith)
      | inr within ↦ within
    ]

-- the recurrence
pub pair_zero : (pair_at 0).0 ≡ 2 ^ 60
unfolding pair_at
pair_zero = refl

pub pair_one : (pair_at 0).1 ≡ angle
unfolding pair_at
pair_one = refl

pub pair_more : (j : ℕ) → (pair_at (j + 1)).0 ≡ (pair_at j).1
unfolding pair_at
pair_more j = rw add-one refl

pub pair_next : (j : ℕ) → (pair_at (j + 1)).1 ≡ min (2 * angle * (pair_at j).1 / 2 ^ 60 - (pair_at j).0) (2 ^ 60)
unfolding pair_at
pair_next j = rw add-one refl

pub cosine_is : (j : ℕ) → cosine_of j ≡ ((pair_at j).0 + 2 ^ 29) / 2 ^ 30
unfolding cosine_of
cosine_is j = refl

pub angle_is : angle ≡ half 9
unfolding angle
angle_is = refl

pub half_zero : half 0 ≡ 0
unfolding half
half_zero = refl

pub half_more : (i : ℕ) → half (i + 1) ≡ root 64 ((2 ^ 60 + half i) * 2 ^ 59)
unfolding half
half_more i = rw add-one refl

-- one entry more
pub holds_more : (n : ℕ) (cs : List ℤ) (z : ℤ) → n < length cs → Holds n cs → z ≡ pos (cosine_of n) → Holds (n + 1) (set cs n z)
holds_more n cs z room before here =
    below_more _ n
    (λ k h. let ne : k ≢ n = omega arith in rw get_or-set_other (before k h))
    (rw get_or-set_same here)

-- worked values, computed
pub worked_256 : cosine_of 256 ≡ 759250125
unfolding cosine_of pair_at angle half root
worked_256 = refl
