-- The tables that are written out are what they are to be: tests of all their numbers, computed.
use Rattle.std.proofs.Common.{◌≡◌, ℕ, zero, suc, ◌+◌, ◌-◌, ◌%◌, ◌^◌, ◌<◌, ◌≤◌, min, true, List, [], ◌∷◌, length, map, ℤ, neg_ℤ, unsigned_abs, refl, arith, ap, sym, subst, ◌∙◌, inl, inr}
use Rattle.std.specs.Prelude.{nat_le, if◌then◌else◌}
use Rattle.std.proofs.lemmas.Bool.{cases_lt}
use Rattle.std.proofs.lemmas.Bool.Decides.{nat_tests}
use Rattle.std.proofs.Math.Nat.{pow-suc}
use Rattle.ac_base.specs.Quarter.{root, half, angle}
use Rattle.ac_base.specs.Cosine.{IsQuarter, half_wave, cosine_at}
use Rattle.ac_base.specs.Sigma.{sigma, Lists, Within}
use Rattle.ac_base.proofs.Walk.{quarter_walked}
use Rattle.ac_base.proofs.Waves.{cosine_half, cosine_bound}
use Rattle.ac_convolution.specs.Negacyclic.{items, wave, turned}
use Rattle.ac_convolution.specs.Rows.{Rows}
use Rattle.ac_convolution.specs.Transform.{table_of, kernel_parts, low_of, high_of, IsTable}
use Rattle.ac_convolution.proofs.Alternating.{wave_low, wave_high}
use Rattle.ac_convolution.proofs.Whole.{table_same}
use Rattle.ac_base.specs.declared.cosine_table.TheConstants.{QUARTER}
use Rattle.ac_cosine_sums.specs.declared.TheConstants.{POWERS, LOW, HIGH}
use Rattle.ac_cosine_sums.proofs.Compared.{matches, lists_matched, table_matches, table_matched}

quarter : IsQuarter QUARTER
unfolding root half angle
quarter = quarter_walked QUARTER refl refl refl

-- the cosine of a phase, by a quarter table
abbrev by_quarter : List ℤ → ℕ → ℤ
by_quarter xs q = if nat_le q 512 then items xs q else neg_ℤ (items xs (1024 - q))

quarter_is : (xs : List ℤ) → IsQuarter xs → (q : ℕ) → q ≤ 1024 → by_quarter xs q ≡ half_wave q
unfolding half_wave
quarter_is xs is q below =
    elim (cases_lt 512 q) [
      | inl high ↦ let entry = is (1024 - q) (omega arith) in grind (arith, nat_tests, entry)
      | inr low ↦ let entry = is q low in grind (arith, nat_tests, entry)
    ]

abbrev phase : ℕ → ℕ
phase p = min (p % 2048) (2048 - p % 2048)

cosine_is : (p : ℕ) → by_quarter QUARTER (phase p) ≡ cosine_at p
unfolding cosine_at
cosine_is p = quarter_is QUARTER quarter (min (p % 2048) (2048 - p % 2048)) (omega arith)

power_test : matches (λ j. by_quarter QUARTER (phase (5 ^ j))) POWERS 0 ≡ true
power_test = refl

pub powers : Lists 256 (λ j. cosine_at (5 ^ j)) POWERS
powers j below = lists_matched 256 (λ j. by_quarter QUARTER (phase (5 ^ j))) POWERS refl power_test j below ∙ cosine_is (5 ^ j)

pub powers_bound : Within (2 ^ 30) 256 POWERS
powers_bound j below = subst (λ (z : ℤ). unsigned_abs z ≤ 2 ^ 30) (sym (powers j below)) (cosine_bound (5 ^ j))

low_test : table_matches (map low_of POWERS) LOW 0 ≡ true
unfolding kernel_parts wave turned low_of high_of sigma
low_test = refl

high_test : table_matches (map high_of POWERS) HIGH 0 ≡ true
unfolding kernel_parts wave turned high_of sigma
high_test = refl

mapped : (f : ℤ → ℤ) (xs : List ℤ) (i : ℕ) → i < length xs → items (map f xs) i ≡ f (items xs i)
mapped f [] i below = absurd (omega arith)
mapped f (x ∷ xs) zero below = refl
mapped f (x ∷ xs) (suc i) below = mapped f xs i (omega arith)

table_known : (f : ℤ → ℤ) (h : List ℤ) (rows : List (List ℤ)) → length h ≡ 256 → length rows ≡ 32 → table_matches (map f h) rows 0 ≡ true → Rows 32 48 (table_of (λ i. f (items h i))) rows
table_known f h rows long many passed e below n within =
    table_matched 32 (map f h) rows many passed e below n within
    ∙ table_same (items (map f h)) (λ i. f (items h i)) (λ i under. mapped f h i (omega arith)) e n within

pub table : IsTable POWERS LOW HIGH
table = (table_known low_of POWERS LOW refl refl low_test, table_known high_of POWERS HIGH refl refl high_test)

-- 256 powers on is half a period on
half_power : (j : ℕ) → 5 ^ (j + 256) % 2048 ≡ (5 ^ j + 1024) % 2048
half_power zero = refl
half_power (suc j) =
    let rest = half_power j in
    let low = pow-suc 5 j in
    let place : suc j + 256 ≡ suc (j + 256) = omega arith in
    let high = ap (λ n. 5 ^ n) place ∙ pow-suc 5 (j + 256) in
    omega arith

pub wave_powers : (xs : List ℤ) → Lists 256 (λ j. cosine_at (5 ^ j)) xs → (n : ℕ) → n < 512 → wave 256 (items xs) n ≡ cosine_at (5 ^ n)
wave_powers xs are n below =
    elim (cases_lt n 256) [
      | inl low ↦ wave_low 256 (items xs) n 0 n (omega arith) (omega arith) refl ∙ are n low
      | inr high ↦
          let place : n - 256 + 256 ≡ n = omega arith in
          wave_high 256 (items xs) n 1 (n - 256) (omega arith) (omega arith) refl
          ∙ ap neg_ℤ (are (n - 256) (omega arith))
          ∙ sym (cosine_half (5 ^ (n - 256)) (5 ^ (n - 256 + 256)) (half_power (n - 256)))
          ∙ ap (λ m. cosine_at (5 ^ m)) place
    ]
