-- Places as they are written: bins, pairs of steps, and steps at both of their steps of the kind before.
use Rattle.std.proofs.Common.{◌≡◌, ℕ, ◌+◌, ◌*◌, ◌/◌, ◌<◌, ◌≤◌, ◌-◌, ◌⊎◌, max, List, length, slice_index, set, length-set, get_or-set_same, get_or-set_other, refl, sym, ap, ap₂, ◌∙◌, inl, inr, arith, subst}
use Rattle.std.proofs.lemmas.Bool.{cases_eq, cases_lt}
use Rattle.ac_levels.specs.Rows.{level_of}
use Rattle.ac_levels.specs.Reach.{ArePairs, IsBlank}

-- a place after a write
set_here : (places : List ℕ) (i p v : ℕ) → i < length places → p ≡ i → slice_index (set places i v) p ≡ v
set_here places i p v room e = ap (slice_index (set places i v)) e ∙ get_or-set_same places i v 0 room

set_there : (places : List ℕ) (i p v : ℕ) → (p ≡ i → ⊥) → slice_index (set places i v) p ≡ slice_index places p
set_there places i p v ne = get_or-set_other places i p v 0 ne

-- ---- bins
pub record ArePlaced (row places : List ℕ) (start k at : ℕ) : Type 0 where
  pub long : length places ≡ 288
  pub inside : (i : ℕ) → start + i < k → slice_index places (at + i) ≡ level_of (slice_index row (start + i))
  pub outside : (p : ℕ) → ((p < at) ⊎ (at + (k - start) ≤ p)) → slice_index places p ≡ 0

pub placed_start : (row blank : List ℕ) (start at : ℕ) → length blank ≡ 288 → IsBlank blank → ArePlaced row blank start start at
placed_start row blank start at long zero = record { long = long; inside = λ i h. absurd (omega arith); outside = λ p h. zero p }

pub placed_more : (row places : List ℕ) (start k at i v : ℕ) → start ≤ k → k < 256 → at ≤ 17 → i ≡ at + (k - start) → v ≡ level_of (slice_index row k) → ArePlaced row places start k at → ArePlaced row (set places i v) start (k + 1) at
placed_more row places start k at i v from below low here value a =
    let room : i < length places = omega (arith, a.long) in
    record {
      long = length-set places i v ∙ a.long;
      inside = λ j h.
          elim (cases_eq (start + j) k) [
            | inl e ↦ set_here places i (at + j) v room (omega arith) ∙ value ∙ ap (λ x. level_of (slice_index row x)) (sym e)
            | inr ne ↦ set_there places i (at + j) v (λ e. absurd (omega arith)) ∙ a.inside j (omega arith)
          ];
      outside = λ p h.
          elim h [
            | inl l ↦ set_there places i p v (λ e. absurd (omega arith)) ∙ a.outside p (inl l)
            | inr l ↦ set_there places i p v (λ e. absurd (omega arith)) ∙ a.outside p (inr (omega arith))
          ];
    }

-- ---- pairs
pub record ArePaired (old new : List ℕ) (n : ℕ) : Type 0 where
  pub long : length new ≡ 288
  pub first : slice_index new 16 ≡ slice_index old 16
  pub later : (g : ℕ) → 0 < g → g < n → slice_index new (16 + g) ≡ max (slice_index old (15 + 2 * g)) (slice_index old (16 + 2 * g))
  pub before : (p : ℕ) → p < 16 → slice_index new p ≡ 0
  pub behind : (p : ℕ) → 16 + n ≤ p → slice_index new p ≡ 0

pub paired_start : (old blank : List ℕ) → length blank ≡ 288 → IsBlank blank → ArePaired old (set blank 16 (slice_index old 16)) 1
paired_start old blank long zero =
    let v = slice_index old 16 in
    record {
      long = length-set blank 16 v ∙ long;
      first = set_here blank 16 16 v (omega arith) refl;
      later = λ g some h. absurd (omega arith);
      before = λ p h. set_there blank 16 p v (λ e. absurd (omega arith)) ∙ zero p;
      behind = λ p h. set_there blank 16 p v (λ e. absurd (omega arith)) ∙ zero p;
    }

pub paired_more : (old new next : List ℕ) (j : ℕ) → j < 8 → length next ≡ 288
    → ((i : ℕ) → i < 16 → slice_index next (17 + 16 * j + i) ≡ max (slice_index old (17 + 32 * j + 2 * i)) (slice_index old (17 + 32 * j + 2 * i + 1)))
    → ((p : ℕ) → p < 17 + 16 * j → slice_index next p ≡ slice_index new p) → ((p : ℕ) → 17 + 16 * j + 16 ≤ p → slice_index next p ≡ slice_index new p)
    → ArePaired old new (16 * j + 1) → ArePaired old next (16 * (j + 1) + 1)
paired_more old new next j below long inside front back a = record {
  long = long;
  first = front 16 (omega arith) ∙ a.first;
  later = λ g some h.
      elim (cases_lt g (16 * j + 1)) [
        | inl l ↦ front (16 + g) (omega arith) ∙ a.later g some l
        | inr l ↦
            let at : 16 + g ≡ 17 + 16 * j + (g - 16 * j - 1) = omega arith in
            let low : 17 + 32 * j + 2 * (g - 16 * j - 1) ≡ 15 + 2 * g = omega arith in
            let high : 17 + 32 * j + 2 * (g - 16 * j - 1) + 1 ≡ 16 + 2 * g = omega arith in
            ap (slice_index next) at ∙ inside (g - 16 * j - 1) (omega arith) ∙ ap₂ (λ (x y : ℕ). max (slice_index old x) (slice_index old y)) low high
      ];
  before = λ p h. front p (omega arith) ∙ a.before p h;
  behind = λ p h. back p (omega arith) ∙ a.behind p (omega arith);
}

pub paired_end : (old new : List ℕ) (j rounds : ℕ) → j ≡ rounds → ArePaired old new (16 * j + 1) → ArePairs (16 * rounds + 1) old new
paired_end old new j rounds e a = subst (λ x. ArePairs (16 * x + 1) old new) e (record { first = a.first; later = a.later; before = a.before; behind = a.behind })

-- ---- each step at two places
pub record AreDoubled (old new : List ℕ) (n : ℕ) : Type 0 where
  pub long : length new ≡ 288
  pub each : (s : ℕ) → s + 1 < 2 * n → slice_index new (16 + s) ≡ slice_index old (16 + (s + 1) / 2)

pub doubled_start : (old blank : List ℕ) → length blank ≡ 288 → AreDoubled old (set blank 16 (slice_index old 16)) 1
doubled_start old blank long =
    let v = slice_index old 16 in
    record {
      long = length-set blank 16 v ∙ long;
      each = λ s h. set_here blank 16 (16 + s) v (omega arith) (omega arith) ∙ ap (slice_index old) (omega arith);
    }

pub doubled_more : (old new : List ℕ) (n : ℕ) → 0 < n → n < 129 → AreDoubled old new n → AreDoubled old (set (set new (15 + 2 * n) (slice_index old (16 + n))) (16 + 2 * n) (slice_index old (16 + n))) (n + 1)
doubled_more old new n some below a =
    let v = slice_index old (16 + n) in
    let next = set new (15 + 2 * n) v in
    let long : length next ≡ 288 = length-set new (15 + 2 * n) v ∙ a.long in
    record {
      long = length-set next (16 + 2 * n) v ∙ long;
      each = λ s h.
          elim (cases_eq s (2 * n)) [
            | inl e ↦ set_here next (16 + 2 * n) (16 + s) v (omega (arith, long)) (omega arith) ∙ ap (slice_index old) (omega arith)
            | inr ne ↦
                set_there next (16 + 2 * n) (16 + s) v (λ e. absurd (omega arith))
                ∙ elim (cases_eq (s + 1) (2 * n)) [
                  | inl e ↦ set_here new (15 + 2 * n) (16 + s) v (omega (arith, a.long)) (omega arith) ∙ ap (slice_index old) (omega arith)
                  | inr ne2 ↦ set_there new (15 + 2 * n) (16 + s) v (λ e. absurd (omega arith)) ∙ a.each s (omega arith)
                ]
          ];
    }
