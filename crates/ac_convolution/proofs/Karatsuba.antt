-- 16 products by 16 from three times 8 by 8.
use Rattle.std.proofs.Common.{◌≡◌, ℕ, ◌+◌, ◌-◌, ◌*◌, ◌^◌, ◌<◌, ◌≤◌, List, unsigned_abs, ℤ, neg_ℤ, ◌+ℤ◌, ◌-ℤ◌, ◌*ℤ◌, sym, ap, ap₂, ◌∙◌, arith, inl, inr}
use Rattle.std.proofs.lemmas.Bool.{cases_lt}
use Rattle.std.proofs.lemmas.Bool.Decides.{nat_tests}
use Rattle.std.proofs.lemmas.Int.{ints, unsigned_abs-mul}
use Rattle.std.proofs.lemmas.Nat.{mul-le}
use Rattle.ac_base.specs.Sigma.{sigma, Within}
use Rattle.ac_base.proofs.Sums.{sigma_bound}
use Rattle.ac_base.proofs.Products.{mul_add, mul_neg, sum_times}
use Rattle.ac_base.proofs.Rearranged.{sigma_same, sigma_add, sigma_split}
use Rattle.ac_convolution.specs.Negacyclic.{items}
use Rattle.ac_convolution.specs.Transform.{parts_of, kernel_parts, eight_of, joined_of}
use Rattle.ac_convolution.proofs.Alternating.{Alternates}

pub parts_low : (f : ℕ → ℤ) (n : ℕ) → n < 16 → parts_of f n ≡ f n
unfolding parts_of
parts_low f n low = grind (arith, nat_tests)

pub parts_high : (f : ℕ → ℤ) (n : ℕ) → 16 ≤ n → parts_of f n ≡ f (n - 16) +ℤ f (n - 8)
unfolding parts_of
parts_high f n high = grind (arith, nat_tests)

pub kernel_first : (v : ℕ → ℤ) (n : ℕ) → n < 16 → kernel_parts v n ≡ v n -ℤ v (n + 8)
unfolding kernel_parts
kernel_first v n low = grind (arith, nat_tests)

pub kernel_second : (v : ℕ → ℤ) (n : ℕ) → 16 ≤ n → n < 32 → kernel_parts v n ≡ neg_ℤ (v (n - 16) +ℤ v (n - 8))
unfolding kernel_parts
kernel_second v n from low = grind (arith, nat_tests)

pub kernel_third : (v : ℕ → ℤ) (n : ℕ) → 32 ≤ n → kernel_parts v n ≡ v (n - 24)
unfolding kernel_parts
kernel_third v n from = grind (arith, nat_tests)

pub joined_low : (p w : ℕ → ℤ) (k : ℕ) → k < 8 → joined_of p w k ≡ eight_of p 16 w 32 k +ℤ eight_of p 0 w 0 k
unfolding joined_of
joined_low p w k low = grind (arith, nat_tests)

pub joined_high : (p w : ℕ → ℤ) (k : ℕ) → 8 ≤ k → joined_of p w k ≡ eight_of p 16 w 32 (k - 8) +ℤ eight_of p 8 w 16 (k - 8)
unfolding joined_of
joined_high p w k high = grind (arith, nat_tests)

-- (a + b) y + a (x - y) = a x + b y
first_term : (a b x y : ℤ) → (a +ℤ b) *ℤ y +ℤ a *ℤ (x -ℤ y) ≡ a *ℤ x +ℤ b *ℤ y
first_term a b x y =
    let sums = sum_times a b y in
    let less : x -ℤ y ≡ x +ℤ neg_ℤ y = omega (arith, ints) in
    let parts = ap (λ z. a *ℤ z) less ∙ mul_add a x (neg_ℤ y) in
    let turned = mul_neg a y in
    omega (arith, ints)

-- (a + b) y + b (- (x + y)) = a y + b (- x)
second_term : (a b x y : ℤ) → (a +ℤ b) *ℤ y +ℤ b *ℤ neg_ℤ (x +ℤ y) ≡ a *ℤ y +ℤ b *ℤ neg_ℤ x
second_term a b x y =
    let sums = sum_times a b y in
    let whole = mul_neg b (x +ℤ y) in
    let parts = mul_add b x y in
    let turned = mul_neg b x in
    omega (arith, ints)

low_half : (f v : ℕ → ℤ) (k : ℕ) → k < 8 → eight_of (parts_of f) 16 (kernel_parts v) 32 k +ℤ eight_of (parts_of f) 0 (kernel_parts v) 0 k ≡ sigma 16 (λ s. f s *ℤ v (s + k))
low_half f v k low =
    let joined = sym (sigma_add 8 (λ s. parts_of f (16 + s) *ℤ kernel_parts v (32 + s + k)) (λ s. parts_of f (0 + s) *ℤ kernel_parts v (0 + s + k))) in
    let terms =
    sigma_same 8 (λ s. parts_of f (16 + s) *ℤ kernel_parts v (32 + s + k) +ℤ parts_of f (0 + s) *ℤ kernel_parts v (0 + s + k)) (λ s. f s *ℤ v (s + k) +ℤ f (8 + s) *ℤ v (8 + s + k))
    (λ s below.
    let high : parts_of f (16 + s) ≡ f s +ℤ f (8 + s) = parts_high f (16 + s) (omega arith) ∙ ap₂ ◌+ℤ◌ (ap f (omega arith)) (ap f (omega arith)) in
    let later : kernel_parts v (32 + s + k) ≡ v (8 + s + k) = kernel_third v (32 + s + k) (omega arith) ∙ ap v (omega arith) in
    let part : parts_of f (0 + s) ≡ f s = parts_low f (0 + s) (omega arith) ∙ ap f (omega arith) in
    let apart : kernel_parts v (0 + s + k) ≡ v (s + k) -ℤ v (8 + s + k) = kernel_first v (0 + s + k) (omega arith) ∙ ap₂ ◌-ℤ◌ (ap v (omega arith)) (ap v (omega arith)) in
    ap₂ ◌+ℤ◌ (ap₂ ◌*ℤ◌ high later) (ap₂ ◌*ℤ◌ part apart) ∙ first_term (f s) (f (8 + s)) (v (s + k)) (v (8 + s + k))) in
    let split = sigma_add 8 (λ s. f s *ℤ v (s + k)) (λ s. f (8 + s) *ℤ v (8 + s + k)) in
    let whole = sigma_split 8 8 (λ s. f s *ℤ v (s + k)) in
    joined ∙ terms ∙ split ∙ sym whole

high_half : (f v : ℕ → ℤ) → Alternates 16 v → (k : ℕ) → k < 8 → eight_of (parts_of f) 16 (kernel_parts v) 32 k +ℤ eight_of (parts_of f) 8 (kernel_parts v) 16 k ≡ sigma 16 (λ s. f s *ℤ v (s + (k + 8)))
high_half f v turns k low =
    let joined = sym (sigma_add 8 (λ s. parts_of f (16 + s) *ℤ kernel_parts v (32 + s + k)) (λ s. parts_of f (8 + s) *ℤ kernel_parts v (16 + s + k))) in
    let terms =
    sigma_same 8 (λ s. parts_of f (16 + s) *ℤ kernel_parts v (32 + s + k) +ℤ parts_of f (8 + s) *ℤ kernel_parts v (16 + s + k)) (λ s. f s *ℤ v (s + (k + 8)) +ℤ f (8 + s) *ℤ v (8 + s + (k + 8)))
    (λ s below.
    let high : parts_of f (16 + s) ≡ f s +ℤ f (8 + s) = parts_high f (16 + s) (omega arith) ∙ ap₂ ◌+ℤ◌ (ap f (omega arith)) (ap f (omega arith)) in
    let later : kernel_parts v (32 + s + k) ≡ v (s + (k + 8)) = kernel_third v (32 + s + k) (omega arith) ∙ ap v (omega arith) in
    let part : parts_of f (8 + s) ≡ f (8 + s) = parts_low f (8 + s) (omega arith) in
    let both : kernel_parts v (16 + s + k) ≡ neg_ℤ (v (s + k) +ℤ v (s + (k + 8))) = kernel_second v (16 + s + k) (omega arith) (omega arith) ∙ ap neg_ℤ (ap₂ ◌+ℤ◌ (ap v (omega arith)) (ap v (omega arith))) in
    let place : 8 + s + (k + 8) ≡ s + k + 16 = omega arith in
    let turned : v (8 + s + (k + 8)) ≡ neg_ℤ (v (s + k)) = ap v place ∙ turns (s + k) in
    ap₂ ◌+ℤ◌ (ap₂ ◌*ℤ◌ high later) (ap₂ ◌*ℤ◌ part both)
    ∙ second_term (f s) (f (8 + s)) (v (s + k)) (v (s + (k + 8)))
    ∙ ap (λ z. f s *ℤ v (s + (k + 8)) +ℤ f (8 + s) *ℤ z) (sym turned)) in
    let split = sigma_add 8 (λ s. f s *ℤ v (s + (k + 8))) (λ s. f (8 + s) *ℤ v (8 + s + (k + 8))) in
    let whole = sigma_split 8 8 (λ s. f s *ℤ v (s + (k + 8))) in
    joined ∙ terms ∙ split ∙ sym whole

pub joined_is : (f v : ℕ → ℤ) → Alternates 16 v → (k : ℕ) → k < 16 → joined_of (parts_of f) (kernel_parts v) k ≡ sigma 16 (λ s. f s *ℤ v (s + k))
joined_is f v turns k below =
    elim (cases_lt k 8) [
      | inl low ↦ joined_low (parts_of f) (kernel_parts v) k low ∙ low_half f v k low
      | inr high ↦
          let place : k - 8 + 8 ≡ k = omega arith in
          joined_high (parts_of f) (kernel_parts v) k high ∙ high_half f v turns (k - 8) (omega arith) ∙ ap (λ n. sigma 16 (λ s. f s *ℤ v (s + n))) place
    ]

-- the parts of 16 numbers are known by them
pub parts_same : (f g : ℕ → ℤ) → ((s : ℕ) → s < 16 → f s ≡ g s) → (n : ℕ) → n < 24 → parts_of f n ≡ parts_of g n
parts_same f g same n below =
    elim (cases_lt n 16) [
      | inl low ↦ parts_low f n low ∙ same n low ∙ sym (parts_low g n low)
      | inr high ↦ parts_high f n high ∙ ap₂ ◌+ℤ◌ (same (n - 16) (omega arith)) (same (n - 8) (omega arith)) ∙ sym (parts_high g n high)
    ]

pub products_bound : (p w : List ℤ) → Within (2 ^ 29) 24 p → Within (2 ^ 21) 48 w → (a b k n : ℕ) → a ≤ 16 → b ≤ 32 → k < 8 → n ≤ 8 → unsigned_abs (sigma n (λ s. items p (a + s) *ℤ items w (b + s + k))) ≤ n * 2 ^ 50
products_bound p w small_p small_w a b k n most_a most_b below most =
    sigma_bound (λ s. items p (a + s) *ℤ items w (b + s + k)) (2 ^ 50) n
    (λ s within. rw unsigned_abs-mul (mul-le _ _ (2 ^ 29) (2 ^ 21) (small_p (a + s) (omega arith)) (small_w (b + s + k) (omega arith))))

-- 16 products by 16 are known by the numbers that they are made of
eight_same : (p q v w : ℕ → ℤ) (a b k : ℕ) → ((n : ℕ) → n < 24 → p n ≡ q n) → ((n : ℕ) → n < 48 → v n ≡ w n) → a ≤ 16 → b ≤ 32 → k < 8 → eight_of p a v b k ≡ eight_of q a w b k
eight_same p q v w a b k same_p same_v most_a most_b below =
    sigma_same 8 (λ s. p (a + s) *ℤ v (b + s + k)) (λ s. q (a + s) *ℤ w (b + s + k))
    (λ s within. ap₂ ◌*ℤ◌ (same_p (a + s) (omega arith)) (same_v (b + s + k) (omega arith)))

pub joined_same : (p q v w : ℕ → ℤ) → ((n : ℕ) → n < 24 → p n ≡ q n) → ((n : ℕ) → n < 48 → v n ≡ w n) → (k : ℕ) → k < 16 → joined_of p v k ≡ joined_of q w k
joined_same p q v w same_p same_v k below =
    elim (cases_lt k 8) [
      | inl low ↦
          joined_low p v k low
          ∙ ap₂ ◌+ℤ◌ (eight_same p q v w 16 32 k same_p same_v (omega arith) (omega arith) low) (eight_same p q v w 0 0 k same_p same_v (omega arith) (omega arith) low)
          ∙ sym (joined_low q w k low)
      | inr high ↦
          joined_high p v k high
          ∙ ap₂ ◌+ℤ◌ (eight_same p q v w 16 32 (k - 8) same_p same_v (omega arith) (omega arith) (omega arith)) (eight_same p q v w 8 16 (k - 8) same_p same_v (omega arith) (omega arith) (omega arith))
          ∙ sym (joined_high q w k high)
    ]
