-- Passes over levels, and what they end at.
use Rattle.std.proofs.Common.{◌≡◌, ℕ, ◌+◌, ◌*◌, ◌/◌, ◌<◌, ◌≤◌, ◌-◌, List, [], slice_index, slice_index_or, sym, ap, ◌∙◌, inl, inr, arith, subst}
use Rattle.std.specs.Prelude.{replicate}
use Rattle.std.proofs.lemmas.Bool.{cases_lt}
use Rattle.std.proofs.lemmas.List.{get_or-replicate, get_or_past, length-replicate}
use Rattle.ac_expo.specs.Least.{distance, spread}
use Rattle.ac_expo.proofs.Spread.{least_le, least_ge}
use Rattle.ac_levels.specs.Rows.{level_of}
use Rattle.ac_levels.specs.Reach.{IsBlank, IsPlace, IsZeroOutside, IsSpread, IsPass}

pub zeros : (n p : ℕ) → slice_index (replicate {A = ℕ} n 0) p ≡ 0
zeros n p =
    elim (cases_lt p n) [
      | inl h ↦ get_or-replicate {A = ℕ} n p 0 0 h
      | inr h ↦ get_or_past {X = ℕ} (replicate n 0) p 0 (omega (arith, length-replicate {A = ℕ} n 0))
    ]

pub blank_rows : (b : ℕ) → b < 6 → IsBlank (slice_index_or (replicate {A = List ℕ} 6 (replicate {A = ℕ} 288 0)) b [])
blank_rows b below =
    let row : List ℕ = replicate 288 0 in
    subst IsBlank (sym (get_or-replicate {A = List ℕ} 6 b row [] below)) (zeros 288)

-- no pass has been made
pub spread_none : (n : ℕ) (places : List ℕ) → IsZeroOutside n places → IsSpread 0 n places places
spread_none n places zero = record {
  above = λ p q in_p in_q near. let e : q ≡ p = omega arith in subst (λ x. slice_index places x ≤ slice_index places p + 16 * distance p x) (sym e) (omega arith);
  least = λ p x in_p each. omega (arith, each p in_p (omega arith));
  outside = zero;
}

-- a pass adds its reach
above_more : (reach n d : ℕ) (places old new : List ℕ) → 1 ≤ d → d ≤ reach + 1 → IsPass n d old new → IsSpread reach n places old → (p q : ℕ) → IsPlace n p → IsPlace n q → distance p q ≤ reach + d → slice_index places q ≤ slice_index new p + 16 * distance p q
above_more reach n d places old new some far pass s p q in_p in_q near =
    let now = pass p in_p in
    elim (cases_lt reach (distance p q)) [
      | inr close ↦ let a = s.above p q in_p in_q close in omega arith
      | inl apart ↦
          elim (cases_lt p q) [
            | inl up ↦
                let a = s.above (p + d) q (omega arith, omega arith) in_q (omega arith) in
                let e : distance (p + d) q + d ≡ distance p q = omega arith in
                omega arith
            | inr down ↦
                let a = s.above (p - d) q (omega arith, omega arith) in_q (omega arith) in
                let e : distance (p - d) q + d ≡ distance p q = omega arith in
                omega arith
          ]
    ]

-- a place that is no higher than x, seen from d away
side : (reach n d : ℕ) (places old : List ℕ) → IsSpread reach n places old → (p r x : ℕ) → ((q : ℕ) → distance p q ≤ distance r q + d) → ((q : ℕ) → IsPlace n q → distance p q ≤ reach + d → slice_index places q ≤ x + 16 * distance p q) → slice_index old r ≤ x + 16 * d
side reach n d places old s p r x apart each =
    elim (cases_lt r 16) [
      | inl low ↦ let z = s.outside r (λ inside. absurd (omega (arith, inside.0))) in omega arith
      | inr from ↦
          elim (cases_lt r (16 + n)) [
            | inl below ↦ s.least r (x + 16 * d) (from, below) (λ q in_q near. let a = apart q in let e = each q in_q (omega arith) in omega arith)
            | inr above ↦ let z = s.outside r (λ inside. absurd (omega (arith, inside.1))) in omega arith
          ]
    ]

least_more : (reach n d : ℕ) (places old new : List ℕ) → IsPass n d old new → IsSpread reach n places old → (p x : ℕ) → IsPlace n p → ((q : ℕ) → IsPlace n q → distance p q ≤ reach + d → slice_index places q ≤ x + 16 * distance p q) → slice_index new p ≤ x
least_more reach n d places old new pass s p x in_p each =
    let now = pass p in_p in
    let here = s.least p x in_p (λ q in_q near. each q in_q (omega arith)) in
    let left = side reach n d places old s p (p - d) x (λ q. omega arith) each in
    let right = side reach n d places old s p (p + d) x (λ q. omega arith) each in
    omega arith

pub spread_more : (reach n d : ℕ) (places old new : List ℕ) → 1 ≤ d → d ≤ reach + 1 → IsPass n d old new → IsZeroOutside n new → IsSpread reach n places old → IsSpread (reach + d) n places new
spread_more reach n d places old new some far pass zero s = record {
  above = above_more reach n d places old new some far pass s;
  least = least_more reach n d places old new pass s;
  outside = zero;
}

-- ---- reach 11 is enough: the levels are those of the formula
pub spread_all : (n last g : ℕ) (places done : List ℕ) (s : ℕ → ℕ) → last < n → g ≤ last → ((h : ℕ) → h < n → slice_index places (16 + h) ≡ level_of (s h)) → ((h : ℕ) → last < h → h < n → 24 ≤ s h) → IsSpread 11 n places done → slice_index done (16 + g) ≡ level_of (spread last s g)
spread_all n last g places done s fits within levels none d =
    let A = slice_index done (16 + g) in
    let e = spread last s g in
    let low : 24 - A / 8 ≤ e =
    least_ge last (λ h. s h + 2 * distance g h) (24 - A / 8) (λ h l.
    elim (cases_lt 11 (distance g h)) [
      | inl far ↦ omega arith
      | inr near ↦
          let a = d.above (16 + g) (16 + h) (omega arith, omega arith) (omega arith, omega arith) (omega arith) in
          let at = levels h (omega arith) in
          let same : distance (16 + g) (16 + h) ≡ distance g h = omega arith in
          omega arith
    ]) in
    let high : A ≤ level_of e =
    d.least (16 + g) (level_of e) (omega arith, omega arith) (λ q in_q near.
    let h = q - 16 in
    let back : 16 + h ≡ q = omega arith in
    let at : slice_index places q ≡ level_of (s h) = ap (slice_index places) (sym back) ∙ levels h (omega arith) in
    let same : distance (16 + g) q ≡ distance g h = omega arith in
    elim (cases_lt last h) [
      | inl past ↦ let z = none h past (omega arith) in omega arith
      | inr inside ↦ let l = least_le last (λ h. s h + 2 * distance g h) h inside in omega arith
    ]) in
    omega arith
