-- The first refused group by a search, and by what it means.
use Rattle.std.proofs.Common.{◌≡◌, ℕ, zero, suc, ◌+◌, ◌*◌, ◌<◌, ◌≤◌, ◌⊎◌, inl, inr, Bool, true, false, ◌&&◌, ◌||◌, length, Option, Some}
use Rattle.std.proofs.Common.{None, refl, ap, sym, subst, arith}
use Rattle.std.proofs.lemmas.Bool.{cases_lt, cases_eq, lt-ltb, ltb-true, leb-true, le-leb}
use Rattle.ac_base.specs.declared.spans.Span.{Span}
use Rattle.ac_expo.specs.Spelling.{Spelling}
use Rattle.ac_base.specs.Spans.{IsIn}
use Rattle.ac_expo.specs.Steps.{step_of}
use Rattle.ac_expo.specs.Groups.{IsOutside, IsOfGroup, IsRefused, IsFirstRefused, NoneRefused}
use Rattle.ac_rows.specs.Spelled.{any_below, first_from, is_outside, is_bad_bin, is_bad_group, first_bad}

true_or_false : (b : Bool) → (b ≡ true) ⊎ (b ≡ false)
true_or_false true = inl refl
true_or_false false = inr refl

or_true : (a b : Bool) → (a || b) ≡ true → (a ≡ true) ⊎ (b ≡ true)
or_true true b e = inl refl
or_true false b e = inr e

or_left : (a b : Bool) → a ≡ true → (a || b) ≡ true
or_left true b e = refl
or_left false b e = absurd cc

or_right : (a b : Bool) → b ≡ true → (a || b) ≡ true
or_right true b e = refl
or_right false b e = e

and_true : (a b : Bool) → (a && b) ≡ true → (a ≡ true) × (b ≡ true)
and_true true b e = (refl, e)
and_true false b e = absurd cc

and_both : (a b : Bool) → a ≡ true → b ≡ true → (a && b) ≡ true
and_both true b e f = f
and_both false b e f = absurd cc

any_found : (n : ℕ) (p : ℕ → Bool) → any_below n p ≡ true → (k : ℕ) × (k < n) × (p k ≡ true)
unfolding any_below
any_found zero p e = absurd cc
any_found (suc n) p e = elim (or_true (any_below n p) (p n) e) [
  | inl h ↦ let r = any_found n p h in (r.0, omega (arith, r.1), r.2)
  | inr h ↦ (n, omega arith, h)
]

any_at : (n : ℕ) (p : ℕ → Bool) (k : ℕ) → k < n → p k ≡ true → any_below n p ≡ true
unfolding any_below
any_at zero p k h e = absurd (omega arith)
any_at (suc n) p k h e = elim (cases_eq k n) [
  | inl same ↦ or_right (any_below n p) (p n) (subst (λ (j : ℕ). p j ≡ true) same e)
  | inr other ↦ or_left (any_below n p) (p n) (any_at n p k (omega arith) e)
]

bad_outside : (span : Span) (s : Spelling) (g : ℕ) → is_outside span.lead s g ≡ true → IsOutside span.lead s g
bad_outside span s g e = elim (or_true _ _ e) [
  | inl h ↦ inl (ltb-true _ _ h)
  | inr h ↦ inr (ltb-true _ _ h)
]

outside_bad : (span : Span) (s : Spelling) (g : ℕ) → IsOutside span.lead s g → is_outside span.lead s g ≡ true
outside_bad span s g (inl h) = or_left _ _ (lt-ltb _ _ h)
outside_bad span s g (inr h) = or_right _ _ (lt-ltb _ _ h)

bin_bad : (kind : ℕ) (span : Span) (s : Spelling) (place k : ℕ) → k < span.end → is_bad_bin kind span s place k ≡ true
    → IsIn span k × IsOfGroup place (step_of kind span k) × IsOutside span.lead s (step_of kind span k)
bin_bad kind span s place k lt e =
    let x = and_true _ _ e in
    let y = and_true _ _ x.0 in
    let z = and_true _ _ y.0 in
    ((leb-true _ _ z.0, lt), (ltb-true _ _ z.1, leb-true _ _ y.1), bad_outside span s (step_of kind span k) x.1)

pub group_refused : (kind : ℕ) (span : Span) (s : Spelling) (place : ℕ) → is_bad_group kind span s place ≡ true
    → IsRefused kind span s place
group_refused kind span s place e = elim (or_true _ _ e) [
  | inl h ↦ inl (ltb-true _ _ h)
  | inr h ↦ let r = any_found span.end (is_bad_bin kind span s place) h in inr (r.0, bin_bad kind span s place r.0 r.1 r.2)
]

pub refused_group : (kind : ℕ) (span : Span) (s : Spelling) (place : ℕ) → IsRefused kind span s place
    → is_bad_group kind span s place ≡ true
refused_group kind span s place (inl over) = or_left _ _ (lt-ltb _ _ over)
refused_group kind span s place (inr bad) =
    let g = step_of kind span bad.0 in
    or_right _ _ (any_at span.end (is_bad_bin kind span s place) bad.0 bad.1.0.1
    (and_both _ _ (and_both _ _ (and_both _ _ (le-leb span.start bad.0 bad.1.0.0) (lt-ltb (3 * place) g bad.1.1.0))
    (le-leb g (3 * place + 3) bad.1.1.1)) (outside_bad span s g bad.1.2)))

-- what the search for the first one found, or didn't
pub first_none : (n i : ℕ) (p : ℕ → Bool) → first_from n i p ≡ None → (k : ℕ) → i ≤ k → k < i + n → p k ≡ false
unfolding first_from
first_none zero i p e k le lt = absurd (omega arith)
first_none (suc n) i p e k le lt = elim (true_or_false (p i)) [
  | inl hit ↦ let g = rw hit at e in absurd cc
  | inr miss ↦
      let g = rw miss at e in
      elim (cases_eq k i) [
        | inl same ↦ subst (λ (j : ℕ). p j ≡ false) (sym same) miss
        | inr other ↦ first_none n (suc i) p g k (omega arith) (omega arith)
      ]
]

pub first_some : (n i : ℕ) (p : ℕ → Bool) (j : ℕ) → first_from n i p ≡ Some j
    → (i ≤ j) × (j < i + n) × (p j ≡ true) × ((k : ℕ) → i ≤ k → k < j → p k ≡ false)
unfolding first_from
first_some zero i p j e = absurd cc
first_some (suc n) i p j e = elim (true_or_false (p i)) [
  | inl hit ↦
      let g = rw hit at e in
      let same : i ≡ j = cc in
      (omega arith, omega arith, subst (λ (k : ℕ). p k ≡ true) same hit, λ k le lt. absurd (omega arith))
  | inr miss ↦
      let g = rw miss at e in
      let r = first_some n (suc i) p j g in (
        omega (arith, r.0),
        omega (arith, r.1),
        r.2,
        λ k le lt. elim (cases_eq k i) [
          | inl same ↦ subst (λ (m : ℕ). p m ≡ false) (sym same) miss
          | inr other ↦ r.3 k (omega arith) lt
        ],
      )
]

not_both : (b : Bool) → b ≡ true → b ≡ false → ⊥
not_both true e f = absurd cc
not_both false e f = absurd cc

-- ---- and its meaning
pub none_refused : (kind : ℕ) (span : Span) (s : Spelling) → first_bad kind span s ≡ None → NoneRefused kind span s
unfolding first_bad
none_refused kind span s e place lt r =
    not_both (is_bad_group kind span s place) (refused_group kind span s place r)
    (first_none (length s.groups) 0 (is_bad_group kind span s) e place (omega arith) (omega arith))

pub is_first_refused : (kind : ℕ) (span : Span) (s : Spelling) (place : ℕ) → first_bad kind span s ≡ Some place
    → IsFirstRefused kind span s place
unfolding first_bad
is_first_refused kind span s place e =
    let r = first_some (length s.groups) 0 (is_bad_group kind span s) place e in
    record {
      within = omega (arith, r.1);
      refused = group_refused kind span s place r.2;
      first = λ k lt x. not_both (is_bad_group kind span s k) (refused_group kind span s k x) (r.3 k (omega arith) lt);
    }

when_none_by : (kind : ℕ) (span : Span) (s : Spelling) → NoneRefused kind span s → (o : Option ℕ) → first_bad kind span s ≡ o → o ≡ None
when_none_by kind span s h None e = refl
when_none_by kind span s h (Some j) e = let r = is_first_refused kind span s j e in absurd (h j r.within r.refused)

pub when_none : (kind : ℕ) (span : Span) (s : Spelling) → NoneRefused kind span s → first_bad kind span s ≡ None
when_none kind span s h = when_none_by kind span s h (first_bad kind span s) refl

when_first_by : (kind : ℕ) (span : Span) (s : Spelling) (place : ℕ) → IsFirstRefused kind span s place → (o : Option ℕ)
    → first_bad kind span s ≡ o → o ≡ Some place
when_first_by kind span s place h None e = absurd (none_refused kind span s e place h.within h.refused)
when_first_by kind span s place h (Some j) e =
    let r = is_first_refused kind span s j e in
    let same : j ≡ place = elim (cases_lt j place) [
      | inl lt ↦ absurd (h.first j lt r.refused)
      | inr le ↦ elim (cases_eq j place) [ inl eq ↦ eq | inr ne ↦ absurd (r.first place (omega arith) h.refused) ]
    ] in
    ap (λ (x : ℕ). Some x) same

pub when_first : (kind : ℕ) (span : Span) (s : Spelling) (place : ℕ) → IsFirstRefused kind span s place → first_bad kind span s ≡ Some place
when_first kind span s place h = when_first_by kind span s place h (first_bad kind span s) refl
