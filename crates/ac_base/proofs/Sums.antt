-- Bounds of sums of products, and the step of a sum.
use Rattle.std.proofs.Common.{◌≡◌, ℕ, zero, suc, ◌+◌, ◌*◌, ◌/◌, ◌^◌, ◌<◌, ◌≤◌, ℤ, pos, ◌+ℤ◌, ◌*ℤ◌, List, slice_index_or, unsigned_abs, arith, add-one, refl, inl, inr}
use Rattle.std.specs.Prelude.{◌⊎◌}
use Rattle.std.proofs.lemmas.Int.{ints, unsigned_abs-mul}
use Rattle.std.proofs.lemmas.Nat.{mul-le}
use Rattle.ac_base.specs.Sigma.{sigma, dot_of, Within}

pub abs_add : (x y : ℤ) → unsigned_abs (x +ℤ y) ≤ unsigned_abs x + unsigned_abs y
abs_add x y = omega (arith, ints)

pub sigma_zero : (f : ℕ → ℤ) → sigma 0 f ≡ pos 0
unfolding sigma
sigma_zero f = refl

pub sigma_more : (n : ℕ) (f : ℕ → ℤ) → sigma (n + 1) f ≡ sigma n f +ℤ f n
unfolding sigma
sigma_more n f = rw add-one refl

pub sigma_bound : (f : ℕ → ℤ) (m n : ℕ) → ((i : ℕ) → i < n → unsigned_abs (f i) ≤ m) → unsigned_abs (sigma n f) ≤ n * m
unfolding sigma
sigma_bound f m zero within = omega arith
sigma_bound f m (suc n) within =
    let rest = sigma_bound f m n (λ i l. within i (omega arith)) in
    let here = within n (omega arith) in
    let both = abs_add (sigma n f) (f n) in
    omega arith

-- each product, and the sum so far with the next product, have room
pub product_bound : (n m k i : ℕ) (a b : List ℤ) → Within m n a → Within k n b → i < n → unsigned_abs (slice_index_or a i (pos 0)) * unsigned_abs (slice_index_or b i (pos 0)) ≤ m * k
product_bound n m k i a b left right l = mul-le _ _ m k (left i l) (right i l)

pub dot_bound : (n m k i : ℕ) (a b : List ℤ) → Within m n a → Within k n b → i ≤ n → unsigned_abs (dot_of i a b) ≤ i * (m * k)
dot_bound n m k i a b left right l =
    sigma_bound (λ j. slice_index_or a j (pos 0) *ℤ slice_index_or b j (pos 0)) (m * k) i
    (λ j below. rw unsigned_abs-mul (product_bound n m k j a b left right (omega arith)))

-- a sum so far with the next product stays below 2 ^ 63
pub room : (n i : ℕ) (a b : List ℤ) (sum : ℤ) → 0 < n → Within (2 ^ 32 / n) n a → Within (2 ^ 30) n b → sum ≡ dot_of i a b → i < n → unsigned_abs sum + unsigned_abs (slice_index_or a i (pos 0)) * unsigned_abs (slice_index_or b i (pos 0)) < 2 ^ 63
room n i a b sum some left right is below =
    let so_far = dot_bound n (2 ^ 32 / n) (2 ^ 30) i a b left right (omega arith) in
    let next = product_bound n (2 ^ 32 / n) (2 ^ 30) i a b left right below in
    let turns = mul-le (i + 1) (2 ^ 32 / n) n (2 ^ 32 / n) (omega arith) (omega arith) in
    rw is (omega arith)

-- a sum of 256 or 512 products has some
pub some_products : (n : ℕ) → (n ≡ 256) ⊎ (n ≡ 512) → 0 < n
some_products n size = elim size [ inl few ↦ omega arith | inr many ↦ omega arith ]
