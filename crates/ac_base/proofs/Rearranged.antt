-- Sums taken apart, turned round, and taken in another order.
use Rattle.std.proofs.Common.{◌≡◌, ◌≢◌, ℕ, zero, suc, ◌+◌, ◌-◌, ◌<◌, ◌≤◌, cond, eqb, ℤ, pos, neg_ℤ, ◌+ℤ◌, refl, sym, ap, ◌∙◌, arith, inl, inr}
use Rattle.std.proofs.lemmas.Bool.{cases_eq}
use Rattle.std.proofs.lemmas.Bool.Decides.{nat_tests}
use Rattle.std.proofs.lemmas.Int.{ints}
use Rattle.ac_base.specs.Sigma.{sigma}

-- the same terms
pub sigma_same : (n : ℕ) (f g : ℕ → ℤ) → ((i : ℕ) → i < n → f i ≡ g i) → sigma n f ≡ sigma n g
unfolding sigma
sigma_same zero f g same = refl
sigma_same (suc n) f g same =
    let rest = sigma_same n f g (λ i below. same i (omega arith)) in
    let here = same n (omega arith) in
    cc

pub sigma_add : (n : ℕ) (f g : ℕ → ℤ) → sigma n (λ i. f i +ℤ g i) ≡ sigma n f +ℤ sigma n g
unfolding sigma
sigma_add zero f g = refl
sigma_add (suc n) f g = let rest = sigma_add n f g in omega (arith, ints)

pub sigma_zeros : (n : ℕ) → sigma n (λ i. pos 0) ≡ pos 0
unfolding sigma
sigma_zeros zero = refl
sigma_zeros (suc n) = let rest = sigma_zeros n in omega (arith, ints)

-- the first m terms, and n more
pub sigma_split : (m n : ℕ) (f : ℕ → ℤ) → sigma (m + n) f ≡ sigma m f +ℤ sigma n (λ i. f (m + i))
unfolding sigma
sigma_split m zero f = let same : m + 0 ≡ m = omega arith in let size = ap (λ k. sigma k f) same in omega (arith, ints)
sigma_split m (suc n) f =
    let rest = sigma_split m n f in
    let same : m + suc n ≡ suc (m + n) = omega arith in
    let size = ap (λ k. sigma k f) same in
    omega (arith, ints)

-- the first term apart
sigma_first : (n : ℕ) (f : ℕ → ℤ) → sigma (suc n) f ≡ f 0 +ℤ sigma n (λ i. f (suc i))
unfolding sigma
sigma_first zero f = omega (arith, ints)
sigma_first (suc n) f = let rest = sigma_first n f in omega (arith, ints)

-- from the last term to the first
pub sigma_reverse : (n : ℕ) (f : ℕ → ℤ) → sigma n f ≡ sigma n (λ i. f (n - 1 - i))
unfolding sigma
sigma_reverse zero f = refl
sigma_reverse (suc n) f =
    let rest = sigma_reverse n (λ i. f (suc i)) in
    let first = sigma_first n f in
    let places = sigma_same n (λ i. f (suc (n - 1 - i))) (λ i. f (suc n - 1 - i)) (λ i below. ap f (omega arith)) in
    let last : f (suc n - 1 - n) ≡ f 0 = ap f (omega arith) in
    omega (arith, ints)

-- 2 n terms in pairs, first and last
pub sigma_pairs : (n : ℕ) (f : ℕ → ℤ) → sigma (n + n) f ≡ sigma n (λ i. f i +ℤ f (n + n - 1 - i))
sigma_pairs n f =
    let parts = sigma_split n n f in
    let turned = sigma_reverse n (λ i. f (n + i)) in
    let places = sigma_same n (λ i. f (n + (n - 1 - i))) (λ i. f (n + n - 1 - i)) (λ i below. ap f (omega arith)) in
    let joined = sigma_add n f (λ i. f (n + n - 1 - i)) in
    omega (arith, ints)

-- two sums in either order
pub sigma_swap : (m n : ℕ) (f : ℕ → ℕ → ℤ) → sigma m (λ i. sigma n (λ j. f i j)) ≡ sigma n (λ j. sigma m (λ i. f i j))
unfolding sigma
sigma_swap zero n f = sym (sigma_zeros n)
sigma_swap (suc m) n f =
    let rest = sigma_swap m n f in
    let joined = sigma_add n (λ j. sigma m (λ i. f i j)) (λ j. f m j) in
    omega (arith, ints)

-- z at place a alone
abbrev pub only : ℕ → ℕ → ℤ → ℤ
only a i z = cond (eqb a i) z (pos 0)

only_here : (a i : ℕ) (z : ℤ) → a ≡ i → only a i z ≡ z
only_here a i z same = grind (arith, nat_tests)

only_else : (a i : ℕ) (z : ℤ) → a ≢ i → only a i z ≡ pos 0
only_else a i z apart = grind (arith, nat_tests)

sigma_none : (n a : ℕ) (f : ℕ → ℤ) → n ≤ a → sigma n (λ i. only a i (f i)) ≡ pos 0
sigma_none n a f high =
    sigma_same n (λ i. only a i (f i)) (λ i. pos 0) (λ i below. only_else a i (f i) (omega arith)) ∙ sigma_zeros n

pub sigma_only : (n a : ℕ) (f : ℕ → ℤ) → a < n → sigma n (λ i. only a i (f i)) ≡ f a
unfolding sigma
sigma_only zero a f below = absurd (omega arith)
sigma_only (suc n) a f below =
    elim (cases_eq a n) [
      | inl last ↦
          let before = sigma_none n a f (omega arith) in
          let here = only_here a n (f n) last in
          let same : f a ≡ f n = ap f last in
          omega (arith, ints)
      | inr early ↦
          let before = sigma_only n a f (omega arith) in
          let here = only_else a n (f n) early in
          omega (arith, ints)
    ]

only_turned : (a b i j : ℕ) (z : ℤ) → (a ≡ i → b ≡ j) → (b ≡ j → a ≡ i) → only a i z ≡ only b j z
only_turned a b i j z there back =
    elim (cases_eq a i) [
      | inl same ↦ only_here a i z same ∙ sym (only_here b j z (there same))
      | inr apart ↦ only_else a i z apart ∙ sym (only_else b j z (λ same. apart (back same)))
    ]

-- the places below n, taken in the order to 0, to 1 ..
pub record Reorders (n : ℕ) (to from : ℕ → ℕ) : Type 0 where
  pub to_below : (i : ℕ) → i < n → to i < n
  pub from_below : (i : ℕ) → i < n → from i < n
  pub there : (i : ℕ) → i < n → from (to i) ≡ i
  pub back : (i : ℕ) → i < n → to (from i) ≡ i

pub sigma_reordered : (n : ℕ) (to from : ℕ → ℕ) (f : ℕ → ℤ) → Reorders n to from → sigma n (λ b. f (to b)) ≡ sigma n f
sigma_reordered n to from f order =
    let spread = sigma_same n (λ b. f (to b)) (λ b. sigma n (λ i. only (to b) i (f i))) (λ b below. sym (sigma_only n (to b) f (order.to_below b below))) in
    let swapped = sigma_swap n n (λ b i. only (to b) i (f i)) in
    let gathered =
    sigma_same n (λ i. sigma n (λ b. only (to b) i (f i))) f
    (λ i below.
    sigma_same n (λ b. only (to b) i (f i)) (λ b. only (from i) b (f i))
    (λ b below_b. only_turned (to b) (from i) i b (f i) (λ same. ap from (sym same) ∙ order.there b below_b) (λ same. ap to (sym same) ∙ order.back i below))
    ∙ sigma_only n (from i) (λ b. f i) (order.from_below i below)) in
    spread ∙ swapped ∙ gathered

pub sigma_neg : (n : ℕ) (f : ℕ → ℤ) → sigma n (λ i. neg_ℤ (f i)) ≡ neg_ℤ (sigma n f)
unfolding sigma
sigma_neg zero f = refl
sigma_neg (suc n) f = let rest = sigma_neg n f in omega (arith, ints)
