-- The transform of 32 rows, the products row by row, and the transform back.
use Rattle.std.proofs.Common.{◌≡◌, ◌≢◌, ℕ, ◌+◌, ◌*◌, ◌/◌, ◌%◌, ◌<◌, ℤ, pos, neg_ℤ, ◌*ℤ◌, sym, ap, ap₂, ◌∙◌, arith, inl, inr}
use Rattle.std.proofs.lemmas.Bool.{cases_eq}
use Rattle.std.proofs.lemmas.Bool.Decides.{nat_tests}
use Rattle.std.proofs.lemmas.Int.{ints}
use Rattle.ac_base.specs.Sigma.{sigma}
use Rattle.ac_base.proofs.Products.{mul_neg, neg_mul}
use Rattle.ac_base.proofs.Rearranged.{sigma_same, sigma_swap, sigma_only, sigma_neg, only}
use Rattle.ac_convolution.proofs.Alternating.{Alternates, same_at, sigma_shifted, turns_cancel, turns_add}
use Rattle.ac_convolution.proofs.DoubleSums.{product_of_sums, times_sigma, sigma_rows}
use Rattle.ac_convolution.specs.Transform.{forward_of, kernel_of, product_at, inverse_of}

-- row a of g against place j of h
abbrev pair_at : (ℕ → ℕ → ℤ) → (ℕ → ℤ) → ℕ → ℕ → ℕ → ℤ
pair_at g h a j k = sigma 16 (λ s. g a s *ℤ h (16 * (s + k) + j))

neg_both : (x y : ℤ) → neg_ℤ x *ℤ neg_ℤ y ≡ x *ℤ y
neg_both x y =
    let first = neg_mul x (neg_ℤ y) in
    let second = mul_neg x y in
    omega (arith, ints)

-- a product of two that alternate has their period
turned_pair : (g : ℕ → ℕ → ℤ) (h : ℕ → ℤ) → ((a : ℕ) → Alternates 16 (g a)) → Alternates 256 h → (e k a j : ℕ) → sigma 16 (λ s. g a (s + e * a) *ℤ h (16 * (s + k + e * j) + j)) ≡ pair_at g h a j (k + e * j + 31 * (e * a))
turned_pair g h alters wraps e k a j =
    let f : ℕ → ℤ = λ s. g a s *ℤ h (16 * (s + (k + e * j + 31 * (e * a))) + j) in
    let period : (s : ℕ) → f (s + 16) ≡ f s =
    λ s.
    let left : g a (s + 16) ≡ neg_ℤ (g a s) = alters a s in
    let place : 16 * (s + 16 + (k + e * j + 31 * (e * a))) + j ≡ 16 * (s + (k + e * j + 31 * (e * a))) + j + 256 = omega arith in
    let right : h (16 * (s + 16 + (k + e * j + 31 * (e * a))) + j) ≡ neg_ℤ (h (16 * (s + (k + e * j + 31 * (e * a))) + j)) = ap h place ∙ wraps (16 * (s + (k + e * j + 31 * (e * a))) + j) in
    ap₂ ◌*ℤ◌ left right ∙ neg_both (g a s) (h (16 * (s + (k + e * j + 31 * (e * a))) + j)) in
    sigma_same 16 (λ s. g a (s + e * a) *ℤ h (16 * (s + k + e * j) + j)) (λ s. f (s + e * a))
    (λ s below.
    ap (λ z. g a (s + e * a) *ℤ z)
    (sym (same_at 256 h wraps (e * a) (16 * (s + k + e * j) + j) (16 * (s + e * a + (k + e * j + 31 * (e * a))) + j) (omega arith))))
    ∙ sigma_shifted 16 f period (e * a)

product_is : (g : ℕ → ℕ → ℤ) (h : ℕ → ℤ) → ((a : ℕ) → Alternates 16 (g a)) → Alternates 256 h → (e k : ℕ) → product_at g h e k ≡ sigma 16 (λ a. sigma 32 (λ j. pair_at g h a j (k + e * j + 31 * (e * a))))
product_is g h alters wraps e k =
    let u : ℕ → ℕ → ℕ → ℤ = λ s a j. g a (s + e * a) *ℤ h (16 * (s + k + e * j) + j) in
    let spread =
    sigma_same 16 (λ s. forward_of g e s *ℤ kernel_of h e (s + k)) (λ s. sigma 16 (λ a. sigma 32 (λ j. u s a j)))
    (λ s below. product_of_sums 16 32 (λ a. g a (s + e * a)) (λ j. h (16 * (s + k + e * j) + j))) in
    let outer = sigma_swap 16 16 (λ s a. sigma 32 (λ j. u s a j)) in
    let inner =
    sigma_same 16 (λ a. sigma 16 (λ s. sigma 32 (λ j. u s a j))) (λ a. sigma 32 (λ j. pair_at g h a j (k + e * j + 31 * (e * a))))
    (λ a below.
    sigma_swap 16 32 (λ s j. u s a j)
    ∙ sigma_same 32 (λ j. sigma 16 (λ s. u s a j)) (λ j. pair_at g h a j (k + e * j + 31 * (e * a)))
    (λ j within. turned_pair g h alters wraps e k a j)) in
    spread ∙ outer ∙ inner

pair_alternates : (g : ℕ → ℕ → ℤ) (h : ℕ → ℤ) → Alternates 256 h → (a j : ℕ) → Alternates 16 (λ k. pair_at g h a j k)
pair_alternates g h wraps a j k =
    sigma_same 16 (λ s. g a s *ℤ h (16 * (s + (k + 16)) + j)) (λ s. neg_ℤ (g a s *ℤ h (16 * (s + k) + j)))
    (λ s below.
    let place : 16 * (s + (k + 16)) + j ≡ 16 * (s + k) + j + 256 = omega arith in
    ap (λ z. g a s *ℤ z) (ap h place ∙ wraps (16 * (s + k) + j)) ∙ mul_neg (g a s) (h (16 * (s + k) + j)))
    ∙ sigma_neg 16 (λ s. g a s *ℤ h (16 * (s + k) + j))

only_here : (a i : ℕ) (z : ℤ) → a ≡ i → only a i z ≡ z
only_here a i z same = grind (arith, nat_tests)

only_else : (a i : ℕ) (z : ℤ) → a ≢ i → only a i z ≡ pos 0
only_else a i z apart = grind (arith, nat_tests)

-- of the places j only one is left
one_place : (f : ℕ → ℤ) → Alternates 16 f → (i a j k : ℕ) → i < 16 → a < 16 → j < 32 → sigma 32 (λ e. f (k + 31 * (e * i) + e * j + 31 * (e * a))) ≡ only (i + a) j (pos 32 *ℤ f k)
one_place f alters i a j k below_i below_a below_j =
    let d : ℕ = 31 * i + j + 31 * a in
    let turns =
    sigma_same 32 (λ e. f (k + 31 * (e * i) + e * j + 31 * (e * a))) (λ e. f (k + e * (31 * i + j + 31 * a)))
    (λ e below. ap f (omega arith)) in
    elim (cases_eq (i + a) j) [
      | inl same ↦ turns ∙ turns_add f alters (31 * i + j + 31 * a) k (omega arith) ∙ sym (only_here (i + a) j (pos 32 *ℤ f k) same)
      | inr apart ↦
          let part : (31 * i + j + 31 * a) % 32 ≢ 0 = omega arith in
          turns ∙ turns_cancel f alters (31 * i + j + 31 * a) k part ∙ sym (only_else (i + a) j (pos 32 *ℤ f k) apart)
    ]

inverse_is : (g : ℕ → ℕ → ℤ) (h : ℕ → ℤ) → ((a : ℕ) → Alternates 16 (g a)) → Alternates 256 h → (i k : ℕ) → i < 16 → inverse_of (product_at g h) i k ≡ sigma 16 (λ a. pos 32 *ℤ pair_at g h a (i + a) k)
inverse_is g h alters wraps i k below_i =
    let u : ℕ → ℕ → ℕ → ℤ = λ e a j. pair_at g h a j (k + 31 * (e * i) + e * j + 31 * (e * a)) in
    let spread =
    sigma_same 32 (λ e. product_at g h e (k + 31 * (e * i))) (λ e. sigma 16 (λ a. sigma 32 (λ j. u e a j)))
    (λ e below. product_is g h alters wraps e (k + 31 * (e * i))) in
    let outer = sigma_swap 32 16 (λ e a. sigma 32 (λ j. u e a j)) in
    let inner =
    sigma_same 16 (λ a. sigma 32 (λ e. sigma 32 (λ j. u e a j))) (λ a. pos 32 *ℤ pair_at g h a (i + a) k)
    (λ a below_a.
    sigma_swap 32 32 (λ e j. u e a j)
    ∙ sigma_same 32 (λ j. sigma 32 (λ e. u e a j)) (λ j. only (i + a) j (pos 32 *ℤ pair_at g h a j k))
    (λ j below_j. one_place (λ n. pair_at g h a j n) (pair_alternates g h wraps a j) i a j k below_i below_a below_j)
    ∙ sigma_only 32 (i + a) (λ j. pos 32 *ℤ pair_at g h a j k) (omega arith)) in
    spread ∙ outer ∙ inner

-- the sum of 256 products, 32 times
pub ring_sum : (g : ℕ → ℕ → ℤ) (h : ℕ → ℤ) → ((a : ℕ) → Alternates 16 (g a)) → Alternates 256 h → (i k : ℕ) → i < 16 → inverse_of (product_at g h) i k ≡ pos 32 *ℤ sigma 256 (λ n. g (n % 16) (n / 16) *ℤ h (n + (16 * k + i)))
ring_sum g h alters wraps i k below_i =
    let f : ℕ → ℕ → ℤ = λ s a. g a s *ℤ h (16 * (s + k) + (i + a)) in
    let whole = inverse_is g h alters wraps i k below_i in
    let out = times_sigma 16 (λ a. pair_at g h a (i + a) k) (pos 32) in
    let swapped = sigma_swap 16 16 (λ a s. f s a) in
    let rows = sigma_rows 16 f in
    let places =
    sigma_same 256 (λ n. f (n / 16) (n % 16)) (λ n. g (n % 16) (n / 16) *ℤ h (n + (16 * k + i)))
    (λ n below.
    let same : 16 * (n / 16 + k) + (i + n % 16) ≡ n + (16 * k + i) = omega arith in
    ap (λ x. g (n % 16) (n / 16) *ℤ h x) same) in
    whole ∙ sym out ∙ ap (λ z. pos 32 *ℤ z) (swapped ∙ sym rows ∙ places)
