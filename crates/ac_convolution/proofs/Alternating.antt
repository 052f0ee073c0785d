-- Functions that change their sign every p places, and their sums.
use Rattle.std.proofs.Common.{◌≡◌, ◌≢◌, ℕ, zero, suc, ◌+◌, ◌*◌, ◌/◌, ◌%◌, ◌<◌, ℤ, pos, neg_ℤ, ◌+ℤ◌, ◌*ℤ◌, refl, sym, ap, ◌∙◌, arith, inl, inr}
use Rattle.std.proofs.lemmas.Bool.{cases_eq}
use Rattle.std.proofs.lemmas.Bool.Decides.{nat_tests}
use Rattle.std.proofs.lemmas.Int.{ints}
use Rattle.std.proofs.Math.IntN.{suc_ℤ-*ℤ, zero-*ℤ}
use Rattle.ac_base.specs.Sigma.{sigma}
use Rattle.ac_base.proofs.Sums.{sigma_zero}
use Rattle.ac_base.proofs.Rearranged.{sigma_same, sigma_split, sigma_neg}
use Rattle.ac_convolution.specs.Negacyclic.{turned, wave}

-- f changes its sign every p places
abbrev pub Alternates : ℕ → (ℕ → ℤ) → Type 0
Alternates p f = (k : ℕ) → f (k + p) ≡ neg_ℤ (f k)

turned_even : (n : ℕ) (z : ℤ) → n % 2 ≡ 0 → turned n z ≡ z
unfolding turned
turned_even n z even = grind (arith, nat_tests)

turned_odd : (n : ℕ) (z : ℤ) → n % 2 ≡ 1 → turned n z ≡ neg_ℤ z
unfolding turned
turned_odd n z odd = grind (arith, nat_tests)

turned_more : (n : ℕ) (z : ℤ) → turned (n + 1) z ≡ neg_ℤ (turned n z)
turned_more n z =
    elim (cases_eq (n % 2) 0) [
      | inl even ↦ let here = turned_even n z even in turned_odd (n + 1) z (omega arith) ∙ ap neg_ℤ (sym here)
      | inr other ↦
          let odd : n % 2 ≡ 1 = omega arith in
          let here = turned_odd n z odd in
          let there = turned_even (n + 1) z (omega arith) in
          omega (arith, ints)
    ]

pub wave_16 : (f : ℕ → ℤ) → Alternates 16 (wave 16 f)
unfolding wave
wave_16 f k =
    let rounds : (k + 16) / 16 ≡ k / 16 + 1 = omega arith in
    let place : (k + 16) % 16 ≡ k % 16 = omega arith in
    ap (λ n. turned n (f ((k + 16) % 16))) rounds ∙ ap (λ i. turned (k / 16 + 1) (f i)) place ∙ turned_more (k / 16) (f (k % 16))

pub wave_256 : (f : ℕ → ℤ) → Alternates 256 (wave 256 f)
unfolding wave
wave_256 f k =
    let rounds : (k + 256) / 256 ≡ k / 256 + 1 = omega arith in
    let place : (k + 256) % 256 ≡ k % 256 = omega arith in
    ap (λ n. turned n (f ((k + 256) % 256))) rounds ∙ ap (λ i. turned (k / 256 + 1) (f i)) place ∙ turned_more (k / 256) (f (k % 256))

pub wave_low : (p : ℕ) (f : ℕ → ℤ) (n q r : ℕ) → n / p ≡ q → n % p ≡ r → q % 2 ≡ 0 → wave p f n ≡ f r
unfolding wave
wave_low p f n q r rounds place even = ap (λ m. turned m (f (n % p))) rounds ∙ turned_even q (f (n % p)) even ∙ ap f place

pub wave_high : (p : ℕ) (f : ℕ → ℤ) (n q r : ℕ) → n / p ≡ q → n % p ≡ r → q % 2 ≡ 1 → wave p f n ≡ neg_ℤ (f r)
unfolding wave
wave_high p f n q r rounds place odd = ap (λ m. turned m (f (n % p))) rounds ∙ turned_odd q (f (n % p)) odd ∙ ap (λ i. neg_ℤ (f i)) place

-- a wave of 16 numbers is known by them
pub wave_same : (f g : ℕ → ℤ) → ((i : ℕ) → i < 16 → f i ≡ g i) → (n : ℕ) → wave 16 f n ≡ wave 16 g n
unfolding wave
wave_same f g same n = ap (λ z. turned (n / 16) z) (same (n % 16) (omega arith))

-- whole turns change nothing
pub same_at : (p : ℕ) (f : ℕ → ℤ) → Alternates p f → (m k j : ℕ) → j ≡ k + 2 * p * m → f j ≡ f k
same_at p f alters zero k j is = ap f (omega arith)
same_at p f alters (suc m) k j is =
    let twice : j ≡ k + 2 * p * m + p + p = omega arith in
    let back = same_at p f alters m k (k + 2 * p * m) refl in
    let first = alters (k + 2 * p * m + p) in
    let second = alters (k + 2 * p * m) in
    let at = ap f twice in
    omega (arith, ints)

pub opposite_at : (p : ℕ) (f : ℕ → ℤ) → Alternates p f → (m k j : ℕ) → j ≡ k + 2 * p * m + p → f j ≡ neg_ℤ (f k)
opposite_at p f alters m k j is =
    let back = same_at p f alters m k (k + 2 * p * m) refl in
    ap f is ∙ alters (k + 2 * p * m) ∙ ap neg_ℤ back

-- the first term apart
pub sigma_first : (n : ℕ) (f : ℕ → ℤ) → sigma (suc n) f ≡ f 0 +ℤ sigma n (λ i. f (suc i))
unfolding sigma
sigma_first zero f = omega (arith, ints)
sigma_first (suc n) f = let rest = sigma_first n f in omega (arith, ints)

-- a whole period may begin anywhere
pub sigma_shifted : (n : ℕ) (f : ℕ → ℤ) → ((s : ℕ) → f (s + n) ≡ f s) → (c : ℕ) → sigma n (λ s. f (s + c)) ≡ sigma n f
unfolding sigma
sigma_shifted n f period zero = sigma_same n (λ s. f (s + 0)) f (λ s below. ap f (omega arith))
sigma_shifted n f period (suc c) =
    let rest = sigma_shifted n f period c in
    let first = sigma_first n (λ s. f (s + c)) in
    let turn : n + c ≡ c + n = omega arith in
    let begin : 0 + c ≡ c = omega arith in
    let last = ap f turn ∙ period c in
    let zeroth = ap f begin in
    let places = sigma_same n (λ s. f (s + suc c)) (λ s. f (suc s + c)) (λ s below. ap f (omega arith)) in
    omega (arith, ints)

-- n places on is the opposite: n + n terms cancel
cancel : (n d k : ℕ) (f : ℕ → ℤ) → ((j : ℕ) → f (j + n * d) ≡ neg_ℤ (f j)) → sigma (n + n) (λ e. f (k + e * d)) ≡ pos 0
cancel n d k f turns =
    let halves = sigma_split n n (λ e. f (k + e * d)) in
    let second =
    sigma_same n (λ e. f (k + (n + e) * d)) (λ e. neg_ℤ (f (k + e * d)))
    (λ e below. let same : k + (n + e) * d ≡ k + e * d + n * d = omega arith in ap f same ∙ turns (k + e * d)) in
    let opposite = sigma_neg n (λ e. f (k + e * d)) in
    omega (arith, ints)

cancels : (m n d k : ℕ) (f : ℕ → ℤ) → ((j : ℕ) → f (j + n * d) ≡ neg_ℤ (f j)) → sigma (m * (n + n)) (λ e. f (k + e * d)) ≡ pos 0
cancels zero n d k f turns =
    let none : zero * (n + n) ≡ 0 = omega arith in
    ap (λ r. sigma r (λ e. f (k + e * d))) none ∙ sigma_zero (λ e. f (k + e * d))
cancels (suc m) n d k f turns =
    let size : suc m * (n + n) ≡ m * (n + n) + (n + n) = omega arith in
    let sized = ap (λ r. sigma r (λ e. f (k + e * d))) size in
    let parts = sigma_split (m * (n + n)) (n + n) (λ e. f (k + e * d)) in
    let before = cancels m n d k f turns in
    let places =
    sigma_same (n + n) (λ e. f (k + (m * (n + n) + e) * d)) (λ e. f (k + m * (n + n) * d + e * d))
    (λ e below. ap f (omega arith)) in
    let here = cancel n d (k + m * (n + n) * d) f turns in
    omega (arith, ints)

-- 32 equal turns that are no whole ones cancel
pub turns_cancel : (f : ℕ → ℤ) → Alternates 16 f → (d k : ℕ) → d % 32 ≢ 0 → sigma 32 (λ e. f (k + e * d)) ≡ pos 0
turns_cancel f alters d k apart =
    elim (cases_eq (d % 2) 0) [
      | inr odd ↦ cancels 1 16 d k f (λ j. opposite_at 16 f alters (d / 2) j (j + 16 * d) (omega arith))
      | inl even ↦
          elim (cases_eq (d % 4) 0) [
            | inr other ↦ cancels 2 8 d k f (λ j. opposite_at 16 f alters (d / 4) j (j + 8 * d) (omega arith))
            | inl fours ↦
                elim (cases_eq (d % 8) 0) [
                  | inr other ↦ cancels 4 4 d k f (λ j. opposite_at 16 f alters (d / 8) j (j + 4 * d) (omega arith))
                  | inl eights ↦
                      elim (cases_eq (d % 16) 0) [
                        | inr other ↦ cancels 8 2 d k f (λ j. opposite_at 16 f alters (d / 16) j (j + 2 * d) (omega arith))
                        | inl last ↦ cancels 16 1 d k f (λ j. opposite_at 16 f alters (d / 32) j (j + 1 * d) (omega arith))
                      ]
                ]
          ]
    ]

pub sigma_equal : (n : ℕ) (z : ℤ) → sigma n (λ e. z) ≡ pos n *ℤ z
unfolding sigma
sigma_equal zero z = sym (zero-*ℤ z)
sigma_equal (suc n) z =
    let rest = sigma_equal n z in
    let more = suc_ℤ-*ℤ (pos n) z in
    omega (arith, ints)

-- 32 whole turns
pub turns_add : (f : ℕ → ℤ) → Alternates 16 f → (d k : ℕ) → d % 32 ≡ 0 → sigma 32 (λ e. f (k + e * d)) ≡ pos 32 *ℤ f k
turns_add f alters d k whole =
    let turns : d ≡ 32 * (d / 32) = omega arith in
    let q = d / 32 in
    sigma_same 32 (λ e. f (k + e * d)) (λ e. f k)
    (λ e below.
    let times : e * d ≡ 32 * (e * (d / 32)) = ap (λ x. e * x) turns ∙ omega arith in
    same_at 16 f alters (e * (d / 32)) k (k + e * d) (omega arith))
    ∙ sigma_equal 32 (f k)
