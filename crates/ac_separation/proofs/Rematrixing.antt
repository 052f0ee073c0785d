-- Band after band: the bins before have their coefficients, those behind are as they were.
use Rattle.std.proofs.Common.{◌≡◌, ◌≢◌, ℕ, zero, suc, ◌+◌, ◌<◌, ◌≤◌, min, ℤ, ◌+ℤ◌, neg_ℤ, Bool, true, false, List, slice_index_or, nat_lt, arith, refl, ap, ap₂, sym, ◌∙◌, inl, inr}
use Rattle.std.specs.Prelude.{◌⊎◌, ◌&&◌, nat_le, nat_eq, if◌then◌else◌, Option, Some, None}
use Rattle.std.proofs.lemmas.Bool.{cases_lt, lt-ltb, le-ltb, le-leb, lt-leb, ne_eqb}
use Rattle.ac_base.specs.declared.spans.Span.{Span}
use Rattle.ac_energy.specs.Coefficients.{entry}
use Rattle.ac_rematrix.specs.Rematrix.{band_at, band_start}
use Rattle.ac_rematrix.proofs.Walk.{bins_of}
use Rattle.ac_rows.specs.Blocks.{Block}
use Rattle.ac_rows.specs.declared.head.Head.{Head}
use Rattle.ac_rows.specs.Groups.{strategy_of}
use Rattle.ac_rows.specs.Filled as filled
use Rattle.ac_rows.specs.Filled.{holds, range_of, blank_span, span_in, spans_of, HasSpans}
use Rattle.ac_separation.specs.Separation.{clamped, cut_at, cut_in, unrematrixed_of}
use Rattle.ac_separation.specs.Written.{AreSums}
use Rattle.ac_separation.proofs.Spans.{span_at, first_bound}

-- what a channel has, by whether the bin has sum and difference
abbrev value_by : Bool → (ℕ → ℕ → ℤ) → ℕ → ℕ → ℤ
value_by there x c k =
    if there
    then (if nat_eq c 0 then clamped (x 0 k +ℤ x 1 k) else if nat_eq c 1 then clamped (x 0 k +ℤ neg_ℤ (x 1 k)) else x c k)
    else x c k

abbrev has_sums_by : Block → ℕ → ℕ → Bool
has_sums_by f cut k = nat_le 13 k && nat_lt k cut && holds (filled.entry f.rematflg (band_at k))

is_value : (h : Head) (f : Block) (x : ℕ → ℕ → ℤ) (c k : ℕ) → unrematrixed_of h f x c k ≡ value_by (has_sums_by f (cut_in h f) k) x c k
unfolding unrematrixed_of
is_value h f x c k = refl

-- no other channel changes
third_is : (x : ℕ → ℕ → ℤ) (c k : ℕ) → 2 ≤ c → value_by true x c k ≡ x c k
third_is x c k high =
    ap₂ (λ (s t : Bool). if s then clamped (x 0 k +ℤ x 1 k) else if t then clamped (x 0 k +ℤ neg_ℤ (x 1 k)) else x c k)
    (ne_eqb c 0 (λ e. omega arith)) (ne_eqb c 1 (λ e. omega arith))

-- ---- whether a bin has sum and difference
module _ (f : Block) (cut k : ℕ) where
  under : k < 13 → has_sums_by f cut k ≡ false
  under low = ap (λ (t : Bool). t && nat_lt k cut && holds (filled.entry f.rematflg (band_at k))) (lt-leb 13 k low)

  beyond_by : (s u : Bool) → (s && false && u) ≡ false
  beyond_by true u = refl
  beyond_by false u = refl

  beyond : cut ≤ k → has_sums_by f cut k ≡ false
  beyond high =
      ap (λ (t : Bool). nat_le 13 k && t && holds (filled.entry f.rematflg (band_at k))) (le-ltb k cut high)
      ∙ beyond_by (nat_le 13 k) (holds (filled.entry f.rematflg (band_at k)))

  inside : 13 ≤ k → k < cut → has_sums_by f cut k ≡ holds (filled.entry f.rematflg (band_at k))
  inside above below = ap₂ (λ (s t : Bool). s && t && holds (filled.entry f.rematflg (band_at k))) (le-leb 13 k above) (lt-ltb k cut below)

-- the starts rise
rises : (n : ℕ) → n < 4 → band_start n ≤ band_start (n + 1)
rises zero few = omega arith
rises (suc zero) few = omega arith
rises (suc (suc zero)) few = omega arith
rises (suc (suc (suc zero))) few = omega arith
rises (suc (suc (suc (suc n)))) few = absurd (omega arith)

-- ---- band after band

pub record AreSoFar (n b cut : ℕ) (f : Block) (old new : List (List (List ℤ))) : Type 0 where
  pub done : (c k : ℕ) → k < band_start n → entry new c b k ≡ value_by (has_sums_by f cut k) (λ d j. entry old d b j) c k
  pub rest : (c k : ℕ) → band_start n ≤ k → entry new c b k ≡ entry old c b k
  pub others : (c j k : ℕ) → j ≢ b → entry new c j k ≡ entry old c j k

pub start : (b cut : ℕ) (f : Block) (old : List (List (List ℤ))) → AreSoFar 0 b cut f old old
start b cut f old = record {
  done = λ c k below. sym (ap (λ (t : Bool). value_by t (λ d j. entry old d b j) c k) (under f cut k below));
  rest = λ c k above. refl;
  others = λ c j k other. refl;
}

module _ (n b cut : ℕ) (f : Block) (old new : List (List (List ℤ))) (few : n < 4) (before : AreSoFar n b cut f old new) where
  abbrev x : ℕ → ℕ → ℤ
  x d j = entry old d b j

  without : (c k : ℕ) (t : Bool) → has_sums_by f cut k ≡ t → value_by t x c k ≡ value_by (has_sums_by f cut k) x c k
  without c k t e = sym (ap (λ (s : Bool). value_by s x c k) e)

  -- a band without a flag
  clear_in : (k : ℕ) → holds (filled.entry f.rematflg n) ≡ false → band_start n ≤ k → k < band_start (n + 1) → has_sums_by f cut k ≡ false
  clear_in k clear above below = elim (cases_lt k cut) [
    | inr high ↦ beyond f cut k high
    | inl low ↦
        let bin = bins_of cut n k few above (omega arith) in
        inside f cut k bin.0 low ∙ ap (λ (i : ℕ). holds (filled.entry f.rematflg i)) bin.2 ∙ clear
  ]

  pub more_clear : holds (filled.entry f.rematflg n) ≡ false → AreSoFar (n + 1) b cut f old new
  more_clear clear = record {
    done = λ c k below. elim (cases_lt k (band_start n)) [
      | inl low ↦ before.done c k low
      | inr above ↦ before.rest c k above ∙ without c k false (clear_in k clear above below)
    ];
    rest = λ c k above. before.rest c k (omega (arith, rises n few));
    others = before.others;
  }

  module _ (after : List (List (List ℤ))) (sums : AreSums (band_start n) (min (band_start (n + 1)) cut) b (entry new) (entry after)) where
    kept : (c k : ℕ) → (k < band_start n) ⊎ (min (band_start (n + 1)) cut ≤ k) → entry after c b k ≡ entry new c b k
    kept zero k out = sums.left.rest k out
    kept (suc zero) k out = sums.right.rest k out
    kept (suc (suc c)) k out = sums.others (suc (suc c)) b k (inl (omega arith))

    changed : (c k : ℕ) → band_start n ≤ k → k < min (band_start (n + 1)) cut → entry after c b k ≡ value_by true x c k
    changed zero k above below = sums.left.done k above below ∙ ap₂ (λ (l r : ℤ). clamped (l +ℤ r)) (before.rest 0 k above) (before.rest 1 k above)
    changed (suc zero) k above below = sums.right.done k above below ∙ ap₂ (λ (l r : ℤ). clamped (l +ℤ neg_ℤ r)) (before.rest 0 k above) (before.rest 1 k above)
    changed (suc (suc c)) k above below = sums.others (suc (suc c)) b k (inl (omega arith)) ∙ before.rest (suc (suc c)) k above ∙ sym (third_is x (suc (suc c)) k (omega arith))

    set_in : (k : ℕ) → holds (filled.entry f.rematflg n) ≡ true → band_start n ≤ k → k < min (band_start (n + 1)) cut → has_sums_by f cut k ≡ true
    set_in k flag above below =
        let bin = bins_of cut n k few above below in
        inside f cut k bin.0 bin.1 ∙ ap (λ (i : ℕ). holds (filled.entry f.rematflg i)) bin.2 ∙ flag

    -- a band with one
    pub more_set : holds (filled.entry f.rematflg n) ≡ true → AreSoFar (n + 1) b cut f old after
    more_set flag = record {
      done = λ c k below. elim (cases_lt k (band_start n)) [
        | inl low ↦ kept c k (inl low) ∙ before.done c k low
        | inr above ↦ elim (cases_lt k cut) [
          | inl near ↦ changed c k above (omega arith) ∙ without c k true (set_in k flag above (omega arith))
          | inr far ↦ kept c k (inr (omega arith)) ∙ before.rest c k above ∙ without c k false (beyond f cut k far)
        ]
      ];
      rest = λ c k above. kept c k (inr (omega arith)) ∙ before.rest c k (omega (arith, rises n few));
      others = λ c j k other. sums.others c j k (inr other) ∙ before.others c j k other;
    }

-- ---- all bands

cut_bound : (range : Option (ℕ × ℕ)) (k n : ℕ) → k ≤ n → cut_at range k ≤ n
cut_bound None k n h = h
cut_bound (Some p) k n h = omega arith

pub all_bands : (b cut : ℕ) (h : Head) (f : Block) (spans : List Span) (old new : List (List (List ℤ))) → spans ≡ spans_of h f → HasSpans h f
    → cut ≡ cut_at (range_of (strategy_of f)) (min (slice_index_or spans 0 blank_span).end (slice_index_or spans 1 blank_span).end)
    → AreSoFar 4 b cut f old new → (c k : ℕ) → entry new c b k ≡ unrematrixed_of h f (λ d j. entry old d b j) c k
all_bands b cut h f spans old new is has cut_is so_far c k =
    let first = span_at h f spans 0 is (omega arith) in
    let second = span_at h f spans 1 is (omega arith) in
    let same : cut ≡ cut_in h f = cut_is ∙ ap₂ (λ (s t : Span). cut_at (range_of (strategy_of f)) (min s.end t.end)) first second in
    let most : cut_in h f ≤ 253 = cut_bound (range_of (strategy_of f)) (min (span_in h f 0).end (span_in h f 1).end) 253 (omega (arith, first_bound h f spans is has)) in
    let as_cut : value_by (has_sums_by f cut k) (λ d j. entry old d b j) c k ≡ unrematrixed_of h f (λ d j. entry old d b j) c k =
    ap (λ (e : ℕ). value_by (has_sums_by f e k) (λ d j. entry old d b j) c k) same ∙ sym (is_value h f (λ d j. entry old d b j) c k) in
    elim (cases_lt k 253) [
      | inl low ↦ so_far.done c k low ∙ as_cut
      | inr high ↦ so_far.rest c k high ∙ sym (ap (λ (t : Bool). value_by t (λ d j. entry old d b j) c k) (beyond f cut k (omega (arith, same, most)))) ∙ as_cut
    ]
