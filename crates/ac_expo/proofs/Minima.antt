-- The least raw exponents of bins and steps.
use Rattle.std.proofs.Common.{◌≡◌, ℕ, suc, zero, ◌+◌, ◌<◌, ◌≤◌, ◌-◌, min, List, [], length, slice_index, slice_index_or, get_or-set_same, get_or-set_other, set, refl, sym, ap, ◌∙◌, inl, inr, arith, subst}
use Rattle.std.specs.Prelude.{replicate, take}
use Rattle.std.proofs.lemmas.Bool.{cases_eq, cases_lt, eq-eqb, ne_eqb}
use Rattle.std.proofs.lemmas.List.{get_or-replicate, get_or_past, length-replicate, get_or-take, length-take-le}
use Rattle.ac_base.specs.declared.spans.Span.{Span}
use Rattle.ac_expo.specs.Steps.{step_of}
use Rattle.ac_expo.specs.Greatest.{bin_least, step_least}

-- ---- one more block, one more bin
pub bin_none : (raw : List (List ℕ)) (from n k : ℕ) → n ≡ 0 → bin_least raw from n k ≡ 24
unfolding bin_least
bin_none raw from n k e = rw e refl

pub bin_more : (raw : List (List ℕ)) (from n m b k : ℕ) → m ≡ n + 1 → b ≡ from + n → bin_least raw from m k ≡ min (bin_least raw from n k) (slice_index (slice_index_or raw b []) k)
unfolding bin_least
bin_more raw from n m b k e at = let e2 : m ≡ suc n = omega arith in rw (e2, at) refl

pub step_none : (kind : ℕ) (span : Span) (f : ℕ → ℕ) (n g : ℕ) → n ≡ 0 → step_least kind span f n g ≡ 24
unfolding step_least
step_none kind span f n g e = rw e refl

pub step_same : (kind : ℕ) (span : Span) (f : ℕ → ℕ) (n g : ℕ) → step_of kind span (span.start + n) ≡ g → step_least kind span f (suc n) g ≡ min (step_least kind span f n g) (f (span.start + n))
unfolding step_least
step_same kind span f n g e = rw (eq-eqb _ _ e) refl

pub step_other : (kind : ℕ) (span : Span) (f : ℕ → ℕ) (n g : ℕ) → (step_of kind span (span.start + n) ≡ g → ⊥) → step_least kind span f (suc n) g ≡ step_least kind span f n g
unfolding step_least
step_other kind span f n g ne = rw (ne_eqb _ _ ne) refl

pub lowered : (kind : ℕ) (span : Span) (f : ℕ → ℕ) (k v : ℕ) (steps : List ℕ) → span.start ≤ k → step_of kind span k < length steps → step_of kind span k < 256 → v ≡ min (slice_index steps (step_of kind span k)) (f k) → ((g : ℕ) → g < 256 → slice_index steps g ≡ step_least kind span f (k - span.start) g) → (g : ℕ) → g < 256 → slice_index (set steps (step_of kind span k) v) g ≡ step_least kind span f (k + 1 - span.start) g
lowered kind span f k v steps from room small value before g in_steps =
    let more : k + 1 - span.start ≡ suc (k - span.start) = omega arith in
    let here : span.start + (k - span.start) ≡ k = omega arith in
    let at : step_of kind span (span.start + (k - span.start)) ≡ step_of kind span k = ap (step_of kind span) here in
    let old = before g in_steps in
    elim (cases_eq g (step_of kind span k)) [
      | inl same ↦
          let now : slice_index (set steps (step_of kind span k) v) g ≡ v = ap (slice_index (set steps (step_of kind span k) v)) same ∙ get_or-set_same steps (step_of kind span k) v 0 room in
          let was : slice_index steps g ≡ slice_index steps (step_of kind span k) = ap (slice_index steps) same in
          let sum = step_same kind span f (k - span.start) g (at ∙ sym same) in
          let value_here : f (span.start + (k - span.start)) ≡ f k = ap f here in
          rw more (omega arith)
      | inr other ↦
          let now = get_or-set_other steps (step_of kind span k) g v 0 other in
          let sum = step_other kind span f (k - span.start) g (λ e. other (sym (sym at ∙ e))) in
          rw more (now ∙ old ∙ sym sum)
    ]

-- ---- at most each, and at least what is at most each
pub bin_small : (raw : List (List ℕ)) (from n k : ℕ) → bin_least raw from n k ≤ 24
unfolding bin_least
bin_small raw from zero k = omega arith
bin_small raw from (suc n) k = omega (arith, bin_small raw from n k)

pub bin_le : (raw : List (List ℕ)) (from n k i : ℕ) → i < n → bin_least raw from n k ≤ slice_index (slice_index_or raw (from + i) []) k
unfolding bin_least
bin_le raw from zero k i l = absurd (omega arith)
bin_le raw from (suc n) k i l =
    elim (cases_eq i n) [
      | inl e ↦ subst (λ x. bin_least raw from (suc n) k ≤ slice_index (slice_index_or raw (from + x) []) k) (sym e) (omega arith)
      | inr ne ↦ omega (arith, bin_le raw from n k i (omega arith))
    ]

pub bin_ge : (raw : List (List ℕ)) (from n k x : ℕ) → x ≤ 24 → ((i : ℕ) → i < n → x ≤ slice_index (slice_index_or raw (from + i) []) k) → x ≤ bin_least raw from n k
unfolding bin_least
bin_ge raw from zero k x small each = small
bin_ge raw from (suc n) k x small each = omega (arith, each n (omega arith), bin_ge raw from n k x small (λ i l. each i (omega arith)))

pub step_small : (kind : ℕ) (span : Span) (f : ℕ → ℕ) (n g : ℕ) → step_least kind span f n g ≤ 24
step_small kind span f zero g = omega (arith, step_none kind span f 0 g refl)
step_small kind span f (suc n) g =
    elim (cases_eq (step_of kind span (span.start + n)) g) [
      | inl e ↦ omega (arith, step_same kind span f n g e, step_small kind span f n g)
      | inr ne ↦ omega (arith, step_other kind span f n g ne, step_small kind span f n g)
    ]

pub step_le : (kind : ℕ) (span : Span) (f : ℕ → ℕ) (n g i : ℕ) → i < n → step_of kind span (span.start + i) ≡ g → step_least kind span f n g ≤ f (span.start + i)
step_le kind span f zero g i l at = absurd (omega arith)
step_le kind span f (suc n) g i l at =
    elim (cases_eq i n) [
      | inl e ↦
          let h : step_of kind span (span.start + n) ≡ g = subst (λ x. step_of kind span (span.start + x) ≡ g) e at in
          subst (λ x. step_least kind span f (suc n) g ≤ f (span.start + x)) (sym e) (omega (arith, step_same kind span f n g h))
      | inr ne ↦
          let old = step_le kind span f n g i (omega arith) at in
          elim (cases_eq (step_of kind span (span.start + n)) g) [
            | inl e ↦ omega (arith, step_same kind span f n g e)
            | inr other ↦ omega (arith, step_other kind span f n g other)
          ]
    ]

pub step_ge : (kind : ℕ) (span : Span) (f : ℕ → ℕ) (n g x : ℕ) → x ≤ 24 → ((i : ℕ) → i < n → step_of kind span (span.start + i) ≡ g → x ≤ f (span.start + i)) → x ≤ step_least kind span f n g
step_ge kind span f zero g x small each = omega (arith, step_none kind span f 0 g refl)
step_ge kind span f (suc n) g x small each =
    let old = step_ge kind span f n g x small (λ i l. each i (omega arith)) in
    elim (cases_eq (step_of kind span (span.start + n)) g) [
      | inl e ↦ let now = each n (omega arith) e in omega (arith, step_same kind span f n g e)
      | inr ne ↦ omega (arith, step_other kind span f n g ne)
    ]

pub step_least-same : (kind : ℕ) (span : Span) (f h : ℕ → ℕ) (n g : ℕ) → ((i : ℕ) → i < n → f (span.start + i) ≡ h (span.start + i)) → step_least kind span f n g ≡ step_least kind span h n g
step_least-same kind span f h zero g same = step_none kind span f 0 g refl ∙ sym (step_none kind span h 0 g refl)
step_least-same kind span f h (suc n) g same =
    let old = step_least-same kind span f h n g (λ i l. same i (omega arith)) in
    elim (cases_eq (step_of kind span (span.start + n)) g) [
      | inl e ↦ let now = same n (omega arith) in omega (arith, step_same kind span f n g e, step_same kind span h n g e)
      | inr ne ↦ omega (arith, step_other kind span f n g ne, step_other kind span h n g ne)
    ]

-- ---- lists of numbers at most 24
pub small_start : (g : ℕ) → slice_index (replicate {A = ℕ} 256 24) g ≤ 24
small_start g =
    elim (cases_lt g 256) [
      | inl h ↦ omega (arith, get_or-replicate {A = ℕ} 256 g 24 0 h)
      | inr h ↦ omega (arith, get_or_past {X = ℕ} (replicate 256 24) g 0 (omega (arith, length-replicate {A = ℕ} 256 24)))
    ]

pub small_set : (s : List ℕ) (i v : ℕ) → i < length s → v ≤ 24 → ((g : ℕ) → slice_index s g ≤ 24) → (g : ℕ) → slice_index (set s i v) g ≤ 24
small_set s i v room small before g =
    elim (cases_eq g i) [
      | inl e ↦ subst (λ x. slice_index (set s i v) x ≤ 24) (sym e) (omega (arith, get_or-set_same s i v 0 room))
      | inr ne ↦ omega (arith, get_or-set_other s i g v 0 ne, before g)
    ]

pub small_take : (n : ℕ) (s : List ℕ) → n ≤ length s → ((g : ℕ) → slice_index s g ≤ 24) → (g : ℕ) → slice_index (take n s) g ≤ 24
small_take n s within before g =
    elim (cases_lt g n) [
      | inl h ↦ omega (arith, get_or-take n s g 0 h, before g)
      | inr h ↦ omega (arith, get_or_past (take n s) g 0 (omega (arith, length-take-le n s within)))
    ]
