-- From the two halves of the factors to the sums.
use Rattle.std.proofs.Common.{◌≡◌, ℕ, suc, ◌+◌, ◌-◌, ◌*◌, ◌/◌, ◌%◌, ◌^◌, ◌<◌, ◌≤◌, List, unsigned_abs, ℤ, pos, negsuc, neg_ℤ, ◌+ℤ◌, ◌-ℤ◌, ◌*ℤ◌, refl, sym, ap, ap₂, ◌∙◌, arith, inl, inr, subst}
use Rattle.std.proofs.lemmas.Bool.{cases_eq, cases_lt}
use Rattle.std.proofs.lemmas.Int.{ints, unsigned_abs-mul}
use Rattle.std.proofs.lemmas.Nat.{mul-le}
use Rattle.std.proofs.Math.IntN.{pos-*ℤ-pos, pos-*ℤ-negsuc, negsuc-*ℤ-pos, *ℤ_comm}
use Rattle.ac_base.specs.Floor.{floor_div}
use Rattle.ac_base.specs.Sigma.{sigma}
use Rattle.ac_base.proofs.Sums.{sigma_bound}
use Rattle.ac_base.proofs.Products.{mul_add, mul_neg}
use Rattle.ac_base.proofs.Rearranged.{sigma_same, sigma_add, sigma_neg}
use Rattle.ac_convolution.specs.Negacyclic.{items, turned, wave, negacyclic}
use Rattle.ac_convolution.specs.Rows.{row, Rows, RowsWithin}
use Rattle.ac_convolution.specs.Transform.{column_of, spread_of, forward_of, kernel_of, product_at, inverse_of, parts_of, kernel_parts, joined_of, table_of, high_of, low_of, whole_of}
use Rattle.ac_convolution.proofs.Alternating.{Alternates, wave_16, wave_256, wave_low, wave_high, sigma_equal}
use Rattle.ac_convolution.proofs.Classes.{wave_is}
use Rattle.ac_convolution.proofs.DoubleSums.{sigma_times, times_sigma}
use Rattle.ac_convolution.proofs.Karatsuba.{joined_is, joined_same, kernel_first, kernel_second, kernel_third}
use Rattle.ac_convolution.proofs.Ring.{ring_sum}

-- a 32nd part of 32 times a number
exact : (z : ℤ) → floor_div (pos 32 *ℤ z) 32 ≡ z
exact (pos n) =
    let times = pos-*ℤ-pos 32 n in
    ap (λ x. floor_div x 32) times ∙ ap pos (omega arith)
exact (negsuc n) =
    let times = pos-*ℤ-negsuc 32 n in
    let place : neg_ℤ (pos (32 * suc n)) ≡ negsuc (32 * n + 31) = omega (arith, ints) in
    ap (λ x. floor_div x 32) (times ∙ place) ∙ ap negsuc (omega arith)

-- waves of 256
pub wave_bound : (f : ℕ → ℤ) (m : ℕ) → ((i : ℕ) → i < 256 → unsigned_abs (f i) ≤ m) → (n : ℕ) → unsigned_abs (wave 256 f n) ≤ m
wave_bound f m small n =
    let here = small (n % 256) (omega arith) in
    elim (cases_eq (n / 256 % 2) 0) [
      | inl even ↦ let is = wave_low 256 f n (n / 256) (n % 256) refl refl even in omega (arith, ints)
      | inr other ↦ let is = wave_high 256 f n (n / 256) (n % 256) refl refl (omega arith) in omega (arith, ints)
    ]

wave_joined : (f g h : ℕ → ℤ) → ((i : ℕ) → h i ≡ f i +ℤ g i *ℤ pos (2 ^ 15)) → (n : ℕ) → wave 256 h n ≡ wave 256 f n +ℤ wave 256 g n *ℤ pos (2 ^ 15)
wave_joined f g h parts n =
    let here = parts (n % 256) in
    elim (cases_eq (n / 256 % 2) 0) [
      | inl even ↦
          let whole = wave_low 256 h n (n / 256) (n % 256) refl refl even in
          let low = wave_low 256 f n (n / 256) (n % 256) refl refl even in
          let high = wave_low 256 g n (n / 256) (n % 256) refl refl even in
          omega (arith, ints)
      | inr other ↦
          let odd : n / 256 % 2 ≡ 1 = omega arith in
          let whole = wave_high 256 h n (n / 256) (n % 256) refl refl odd in
          let low = wave_high 256 f n (n / 256) (n % 256) refl refl odd in
          let high = wave_high 256 g n (n / 256) (n % 256) refl refl odd in
          omega (arith, ints)
    ]

-- both halves of each factor
pub halves_of : (z : ℤ) → z ≡ low_of z +ℤ high_of z *ℤ pos (2 ^ 15)
unfolding low_of
halves_of z = omega (arith, ints)

kernel_alternates : (h : ℕ → ℤ) → Alternates 256 h → (e : ℕ) → Alternates 16 (kernel_of h e)
kernel_alternates h wraps e t =
    sigma_same 32 (λ j. h (16 * (t + 16 + e * j) + j)) (λ j. neg_ℤ (h (16 * (t + e * j) + j)))
    (λ j below.
    let place : 16 * (t + 16 + e * j) + j ≡ 16 * (t + e * j) + j + 256 = omega arith in
    ap h place ∙ wraps (16 * (t + e * j) + j))
    ∙ sigma_neg 32 (λ j. h (16 * (t + e * j) + j))

product_alternates : (g : ℕ → ℕ → ℤ) (h : ℕ → ℤ) → Alternates 256 h → (e : ℕ) → Alternates 16 (product_at g h e)
product_alternates g h wraps e k =
    sigma_same 16 (λ s. forward_of g e s *ℤ kernel_of h e (s + (k + 16))) (λ s. neg_ℤ (forward_of g e s *ℤ kernel_of h e (s + k)))
    (λ s below.
    let place : s + (k + 16) ≡ s + k + 16 = omega arith in
    ap (λ z. forward_of g e s *ℤ z) (ap (λ t. kernel_of h e t) place ∙ kernel_alternates h wraps e (s + k)) ∙ mul_neg (forward_of g e s) (kernel_of h e (s + k)))
    ∙ sigma_neg 16 (λ s. forward_of g e s *ℤ kernel_of h e (s + k))

-- what the code computes of one half of the factors
pub half_is : (g h : ℕ → ℤ) (parts kernels : List (List ℤ)) → Rows 32 24 (λ e. parts_of (forward_of (spread_of g) e)) parts → Rows 32 48 (table_of h) kernels → (i k : ℕ) → i < 16 → k < 16 → inverse_of (λ e. wave 16 (joined_of (items (row parts e)) (items (row kernels e)))) i k ≡ pos 32 *ℤ negacyclic g h (16 * k + i)
half_is g h parts kernels are table i k below within =
    let w : ℕ → ℤ = wave 256 h in
    let rows =
    sigma_same 32 (λ e. wave 16 (joined_of (items (row parts e)) (items (row kernels e))) (k + 31 * (e * i))) (λ e. product_at (spread_of g) w e (k + 31 * (e * i)))
    (λ e under.
    wave_is (joined_of (items (row parts e)) (items (row kernels e))) (product_at (spread_of g) w e) (product_alternates (spread_of g) w (wave_256 h) e)
    (λ s low.
    joined_same (items (row parts e)) (parts_of (forward_of (spread_of g) e)) (items (row kernels e)) (kernel_parts (kernel_of w e)) (λ n l. are e under n l) (λ n l. table e under n l) s low
    ∙ joined_is (forward_of (spread_of g) e) (kernel_of w e) (kernel_alternates w (wave_256 h) e) s low)
    (k + 31 * (e * i))) in
    let sum = ring_sum (spread_of g) w (λ a. wave_16 (column_of g a)) (wave_256 h) i k below in
    let places =
    sigma_same 256 (λ n. spread_of g (n % 16) (n / 16) *ℤ w (n + (16 * k + i))) (λ n. g n *ℤ w (n + (16 * k + i)))
    (λ n low.
    let place : 16 * (n / 16) + n % 16 ≡ n = omega arith in
    ap (λ z. z *ℤ w (n + (16 * k + i))) (wave_low 16 (column_of g (n % 16)) (n / 16) 0 (n / 16) (omega arith) (omega arith) refl ∙ ap g place)) in
    rows ∙ sum ∙ ap (λ z. pos 32 *ℤ z) places

pub sum_bound : (g h : ℕ → ℤ) → ((i : ℕ) → i < 256 → unsigned_abs (g i) ≤ 2 ^ 24) → ((i : ℕ) → i < 256 → unsigned_abs (h i) ≤ 2 ^ 15) → (k : ℕ) → unsigned_abs (pos 32 *ℤ negacyclic g h k) ≤ 2 ^ 52
sum_bound g h left right k =
    let bound =
    sigma_bound (λ i. g i *ℤ wave 256 h (i + k)) (2 ^ 24 * 2 ^ 15) 256
    (λ i below. rw unsigned_abs-mul (mul-le _ _ (2 ^ 24) (2 ^ 15) (left i below) (wave_bound h (2 ^ 15) right (i + k)))) in
    rw unsigned_abs-mul (omega arith)

kernel_bound : (h : ℕ → ℤ) → ((i : ℕ) → i < 256 → unsigned_abs (h i) ≤ 2 ^ 15) → (e t : ℕ) → unsigned_abs (kernel_of (wave 256 h) e t) ≤ 2 ^ 20
kernel_bound h small e t =
    let bound = sigma_bound (λ j. wave 256 h (16 * (t + e * j) + j)) (2 ^ 15) 32 (λ j below. wave_bound h (2 ^ 15) small (16 * (t + e * j) + j)) in
    omega arith

pub some_kernel : (h : ℕ → ℤ) → ((i : ℕ) → i < 256 → unsigned_abs (h i) ≤ 2 ^ 15) → (e t n : ℕ) → n ≤ 32 → unsigned_abs (sigma n (λ j. wave 256 h (16 * (t + e * j) + j))) ≤ 2 ^ 20
some_kernel h small e t n most =
    let bound = sigma_bound (λ j. wave 256 h (16 * (t + e * j) + j)) (2 ^ 15) n (λ j below. wave_bound h (2 ^ 15) small (16 * (t + e * j) + j)) in
    omega arith

parts_bound : (v : ℕ → ℤ) → ((n : ℕ) → unsigned_abs (v n) ≤ 2 ^ 20) → (n : ℕ) → unsigned_abs (kernel_parts v n) ≤ 2 ^ 21
parts_bound v small n =
    elim (cases_lt n 16) [
      | inl low ↦
          let is = kernel_first v n low in
          let left = small n in
          let right = small (n + 8) in
          omega (arith, ints)
      | inr from ↦
          elim (cases_lt n 32) [
            | inl middle ↦
                let is = kernel_second v n from middle in
                let left = small (n - 16) in
                let right = small (n - 8) in
                omega (arith, ints)
            | inr high ↦
                let is = kernel_third v n high in
                let here = small (n - 24) in
                omega (arith, ints)
          ]
    ]

pub table_bound : (h : ℕ → ℤ) → ((i : ℕ) → i < 256 → unsigned_abs (h i) ≤ 2 ^ 15) → (rows : List (List ℤ)) → Rows 32 48 (table_of h) rows → RowsWithin (2 ^ 21) 32 48 rows
table_bound h small rows are e below n within =
    subst (λ (z : ℤ). unsigned_abs z ≤ 2 ^ 21) (sym (are e below n within)) (parts_bound (kernel_of (wave 256 h) e) (λ t. kernel_bound h small e t) n)

pub kernel_parts_same : (v w : ℕ → ℤ) → ((t : ℕ) → t < 24 → v t ≡ w t) → (n : ℕ) → n < 48 → kernel_parts v n ≡ kernel_parts w n
kernel_parts_same v w same n below =
    elim (cases_lt n 16) [
      | inl low ↦ kernel_first v n low ∙ ap₂ ◌-ℤ◌ (same n (omega arith)) (same (n + 8) (omega arith)) ∙ sym (kernel_first w n low)
      | inr from ↦
          elim (cases_lt n 32) [
            | inl middle ↦
                kernel_second v n from middle ∙ ap neg_ℤ (ap₂ ◌+ℤ◌ (same (n - 16) (omega arith)) (same (n - 8) (omega arith))) ∙ sym (kernel_second w n from middle)
            | inr high ↦ kernel_third v n high ∙ same (n - 24) (omega arith) ∙ sym (kernel_third w n high)
          ]
    ]

wave_known : (f g : ℕ → ℤ) → ((i : ℕ) → i < 256 → f i ≡ g i) → (n : ℕ) → wave 256 f n ≡ wave 256 g n
unfolding wave
wave_known f g same n = ap (λ z. turned (n / 256) z) (same (n % 256) (omega arith))

pub table_same : (f g : ℕ → ℤ) → ((i : ℕ) → i < 256 → f i ≡ g i) → (e n : ℕ) → n < 48 → table_of f e n ≡ table_of g e n
table_same f g same e n below =
    kernel_parts_same (kernel_of (wave 256 f) e) (kernel_of (wave 256 g) e)
    (λ t under.
    sigma_same 32 (λ j. wave 256 f (16 * (t + e * j) + j)) (λ j. wave 256 g (16 * (t + e * j) + j))
    (λ j within. wave_known f g same (16 * (t + e * j) + j)))
    n below

-- the rest of a division by 2 ^ 15
floor_rest : (w : ℤ) → (r : ℕ) × (r < 2 ^ 15) × (w ≡ floor_div w (2 ^ 15) *ℤ pos (2 ^ 15) +ℤ pos r)
floor_rest (pos n) =
    let times = pos-*ℤ-pos (n / 32768) 32768 in
    (n % 32768, omega arith, omega (arith, ints))
floor_rest (negsuc n) =
    let times = negsuc-*ℤ-pos (n / 32768) 32768 in
    (32767 - n % 32768, omega arith, omega (arith, ints))

pub low_is : (z : ℤ) → low_of z ≡ z -ℤ high_of z *ℤ pos (2 ^ 15)
unfolding low_of
low_is z = refl

pub low_bound : (z : ℤ) → unsigned_abs (low_of z) ≤ 2 ^ 14
unfolding low_of high_of
low_bound z =
    let rest = floor_rest (z +ℤ pos (2 ^ 14)) in
    let small = rest.1 in
    let is = rest.2 in
    omega (arith, ints)

pub high_bound : (z : ℤ) → unsigned_abs z ≤ 2 ^ 30 → unsigned_abs (high_of z) ≤ 2 ^ 15
unfolding high_of
high_bound z small =
    let rest = floor_rest (z +ℤ pos (2 ^ 14)) in
    let under = rest.1 in
    let is = rest.2 in
    omega (arith, ints)

pub whole_is : (a b : ℤ) → whole_of (pos 32 *ℤ a) (pos 32 *ℤ b) ≡ a +ℤ b *ℤ pos (2 ^ 15)
unfolding whole_of
whole_is a b = ap₂ (λ x y. x +ℤ y *ℤ pos (2 ^ 15)) (exact a) (exact b)

times_more : (n : ℕ) (x y : ℤ) → (x *ℤ y) *ℤ pos n ≡ x *ℤ (y *ℤ pos n)
times_more n x y =
    *ℤ_comm (x *ℤ y) (pos n)
    ∙ sym (sigma_equal n (x *ℤ y))
    ∙ sym (times_sigma n (λ e. y) x)
    ∙ ap (λ z. x *ℤ z) (sigma_equal n y ∙ *ℤ_comm (pos n) y)

-- the halves of the factors, summed apart
pub sum_joined : (g h : ℕ → ℤ) (k : ℕ) → negacyclic g (λ i. low_of (h i)) k +ℤ negacyclic g (λ i. high_of (h i)) k *ℤ pos (2 ^ 15) ≡ negacyclic g h k
sum_joined g h k =
    let low : ℕ → ℤ = λ i. g i *ℤ wave 256 (λ i. low_of (h i)) (i + k) in
    let high : ℕ → ℤ = λ i. g i *ℤ wave 256 (λ i. high_of (h i)) (i + k) in
    let scaled = sigma_times 256 high (pos (2 ^ 15)) in
    let joined = sigma_add 256 low (λ i. high i *ℤ pos (2 ^ 15)) in
    let terms =
    sigma_same 256 (λ i. low i +ℤ high i *ℤ pos (2 ^ 15)) (λ i. g i *ℤ wave 256 h (i + k))
    (λ i below.
    ap (λ z. g i *ℤ wave 256 (λ i. low_of (h i)) (i + k) +ℤ z) (times_more (2 ^ 15) (g i) (wave 256 (λ i. high_of (h i)) (i + k)))
    ∙ sym (mul_add (g i) (wave 256 (λ i. low_of (h i)) (i + k)) (wave 256 (λ i. high_of (h i)) (i + k) *ℤ pos (2 ^ 15)))
    ∙ ap (λ z. g i *ℤ z) (sym (wave_joined (λ i. low_of (h i)) (λ i. high_of (h i)) h (λ i. halves_of (h i)) (i + k)))) in
    ap (λ z. sigma 256 low +ℤ z) scaled ∙ sym joined ∙ terms
