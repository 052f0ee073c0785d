-- What the spans of a filled block tell of its channels.
use Rattle.std.proofs.Common.{◌≡◌, ℕ, zero, suc, ◌+◌, ◌-◌, ◌*◌, ◌/◌, ◌<◌, ◌≤◌, Bool, true, false, List, get_or, slice_index_or, Some, None, nat_lt, arith, refl, ap, ap₂, sym, subst, ◌∙◌}
use Rattle.std.specs.Prelude.{◌&&◌, ◌==◌, not, if◌then◌else◌}
use Rattle.std.proofs.lemmas.Bool.{eq-eqb, eqb-true, and_parts, lt-ltb, le-ltb}
use Rattle.std.proofs.Math.Bool.{and-true}
use Rattle.ac_base.specs.declared.spans.Span.{Span}
use Rattle.ac_base.specs.Shape.{full_of, full_span, next_span, low_span, coupling_span}
use Rattle.ac_base.specs.Spans.{is_coupling}
use Rattle.ac_rows.specs.Blocks.{Block}
use Rattle.ac_rows.specs.declared.head.Head.{Head}
use Rattle.ac_rows.specs.Groups.{strategy_of}
use Rattle.ac_rows.specs.Filled.{holds, number, entry, listed, range_of, is_coupled, blank_span, span_in, spans_of, HasSpans}
use Rattle.ac_separation.specs.Written.{is_coupled_lead, lead_at}

-- the full channels are at most five
pub full_bound : (acmod : ℕ) → acmod ≤ 7 → full_of acmod ≤ 5
full_bound zero h = omega arith
full_bound (suc zero) h = omega arith
full_bound (suc (suc zero)) h = omega arith
full_bound (suc (suc (suc zero))) h = omega arith
full_bound (suc (suc (suc (suc zero)))) h = omega arith
full_bound (suc (suc (suc (suc (suc zero))))) h = omega arith
full_bound (suc (suc (suc (suc (suc (suc zero)))))) h = omega arith
full_bound (suc (suc (suc (suc (suc (suc (suc zero))))))) h = omega arith
full_bound (suc (suc (suc (suc (suc (suc (suc (suc n)))))))) h = absurd (omega arith)

pub full_some : (acmod : ℕ) → acmod ≤ 7 → 0 < full_of acmod
full_some zero h = omega arith
full_some (suc zero) h = omega arith
full_some (suc (suc zero)) h = omega arith
full_some (suc (suc (suc zero))) h = omega arith
full_some (suc (suc (suc (suc zero)))) h = omega arith
full_some (suc (suc (suc (suc (suc zero))))) h = omega arith
full_some (suc (suc (suc (suc (suc (suc zero)))))) h = omega arith
full_some (suc (suc (suc (suc (suc (suc (suc zero))))))) h = omega arith
full_some (suc (suc (suc (suc (suc (suc (suc (suc n)))))))) h = absurd (omega arith)

entry_listed : {A : Type 0} (n j : ℕ) (f : ℕ → A) (k : ℕ) (d : A) → k < n → get_or (listed n j f) k d ≡ f (j + k)
unfolding listed
entry_listed zero j f k d lt = absurd (omega arith)
entry_listed (suc n) j f zero d lt = ap f (omega arith)
entry_listed (suc n) j f (suc k) d lt = entry_listed n (suc j) f k d (omega arith) ∙ ap f (omega arith)

pub span_at : (h : Head) (f : Block) (spans : List Span) (c : ℕ) → spans ≡ spans_of h f → c < 7 → slice_index_or spans c blank_span ≡ span_in h f c
span_at h f spans c is few = ap (λ (xs : List Span). slice_index_or xs c blank_span) is ∙ entry_listed 7 0 (span_in h f) c blank_span few ∙ ap (span_in h f) (omega arith)

-- ---- a span by the tests that it is made of

abbrev pub span_by : Bool → Bool → Bool → Bool → Bool → Bool → ℕ → ℕ × ℕ → Span
span_by full used coupled first second low width p =
    let range = if used then Some p else None in
    if full then full_span width (if used && coupled then range else None)
    else if used then (if first then next_span range else if second && low then low_span else blank_span)
    else (if first && low then low_span else blank_span)

pub in_by : (h : Head) (f : Block) (c : ℕ) → span_in h f c ≡ span_by (nat_lt c (full_of h.acmod)) (holds f.cplinu) (holds (entry f.chincpl c)) (c == full_of h.acmod) (c == full_of h.acmod + 1) h.lfeon (number (entry f.chbwcod c)) (number f.cplbegf, number f.cplendf)
in_by h f c = refl

coupled_by : (full used coupled first second low : Bool) (width : ℕ) (p : ℕ × ℕ) → is_coupled_lead (span_by full used coupled first second low width p).lead ≡ (full && (used && coupled))
coupled_by true true true first second low width p = refl
coupled_by true true false first second low width p = refl
coupled_by true false coupled first second low width p = refl
coupled_by false true coupled true second low width p = refl
coupled_by false true coupled false true true width p = refl
coupled_by false true coupled false true false width p = refl
coupled_by false true coupled false false low width p = refl
coupled_by false false coupled true second true width p = refl
coupled_by false false coupled true second false width p = refl
coupled_by false false coupled false second low width p = refl

coupling_by : (full used coupled first second low : Bool) (width : ℕ) (p : ℕ × ℕ) → is_coupling (span_by full used coupled first second low width p).lead ≡ (not full && used && first)
coupling_by true true true first second low width p = refl
coupling_by true true false first second low width p = refl
coupling_by true false coupled first second low width p = refl
coupling_by false true coupled true second low width p = refl
coupling_by false true coupled false true true width p = refl
coupling_by false true coupled false true false width p = refl
coupling_by false true coupled false false low width p = refl
coupling_by false false coupled true second true width p = refl
coupling_by false false coupled true second false width p = refl
coupling_by false false coupled false second low width p = refl

-- ---- a head and a filled block with their spans
end_by : (used coupled first second low : Bool) (width : ℕ) (p : ℕ × ℕ) → ((used && coupled) ≡ false → width ≤ 60) → (used ≡ true → p.0 ≤ 15) → (span_by true used coupled first second low width p).end ≤ 253
end_by true true first second low width p free shared = omega (arith, shared refl)
end_by true false first second low width p free shared = omega (arith, free refl)
end_by false coupled first second low width p free shared = omega (arith, free refl)

-- whole subbands within the bins of a coupling channel
pub record AreSubbands (s : Span) : Type 0 where
  pub start : 37 ≤ s.start
  pub end : s.end ≤ 253
  pub whole : 12 * ((s.end - s.start) / 12) ≡ s.end - s.start

subbands_of : (begin end : ℕ) → begin ≤ 15 → end ≤ 15 → AreSubbands (coupling_span begin end)
subbands_of begin end p q = record { start = omega arith; end = omega arith; whole = omega arith }

-- ---- a head and a filled block with their spans
module _ (h : Head) (f : Block) (spans : List Span) (is : spans ≡ spans_of h f) (has : HasSpans h f) where
  lead_is : (c : ℕ) → c < 7 → lead_at spans c ≡ (span_in h f c).lead
  lead_is c few = ap (λ (s : Span). s.lead) (span_at h f spans c is few)

  -- the full channels that are coupled
  pub coupled_is : (c : ℕ) → c < 7 → is_coupled_lead (lead_at spans c) ≡ (nat_lt c (full_of h.acmod) && is_coupled (strategy_of f) c)
  coupled_is c few =
      ap is_coupled_lead (lead_is c few)
      ∙ coupled_by (nat_lt c (full_of h.acmod)) (holds f.cplinu) (holds (entry f.chincpl c)) (c == full_of h.acmod) (c == full_of h.acmod + 1) h.lfeon (number (entry f.chbwcod c)) (number f.cplbegf, number f.cplendf)

  coupling_is : (c : ℕ) → c < 7 → is_coupling (lead_at spans c) ≡ (not (nat_lt c (full_of h.acmod)) && holds f.cplinu && (c == full_of h.acmod))
  coupling_is c few =
      ap is_coupling (lead_is c few)
      ∙ coupling_by (nat_lt c (full_of h.acmod)) (holds f.cplinu) (holds (entry f.chincpl c)) (c == full_of h.acmod) (c == full_of h.acmod + 1) h.lfeon (number (entry f.chbwcod c)) (number f.cplbegf, number f.cplendf)

  -- the coupling channel stands behind the full ones
  pub full_is : (c : ℕ) → c < 7 → is_coupling (lead_at spans c) ≡ true → (c ≡ full_of h.acmod) × (holds f.cplinu ≡ true)
  full_is c few found =
      let all = and_parts (not (nat_lt c (full_of h.acmod)) && holds f.cplinu) (c == full_of h.acmod) (sym (coupling_is c few) ∙ found) in
      let front = and_parts (not (nat_lt c (full_of h.acmod))) (holds f.cplinu) all.0 in
      (eqb-true c (full_of h.acmod) all.1, front.1)

  -- and there is one where coupling is in use
  pub none_is : ((c : ℕ) → c < 7 → is_coupling (lead_at spans c) ≡ false) → holds f.cplinu ≡ false
  none_is none =
      let full = full_of h.acmod in
      let few : full < 7 = omega (arith, full_bound h.acmod has.channels) in
      let tests : (not (nat_lt full full) && holds f.cplinu && (full == full)) ≡ (holds f.cplinu && true) =
      ap₂ (λ (s t : Bool). not s && holds f.cplinu && t) (le-ltb full full (omega arith)) (eq-eqb full full refl) in
      sym (and-true (holds f.cplinu)) ∙ sym tests ∙ sym (coupling_is full few) ∙ none full few

  range_is : holds f.cplinu ≡ true → range_of (strategy_of f) ≡ Some (number f.cplbegf, number f.cplendf)
  range_is used = ap (λ (t : Bool). if t then Some (number f.cplbegf, number f.cplendf) else None) used

  pub begin_bound : holds f.cplinu ≡ true → number f.cplbegf ≤ 15
  begin_bound used = (has.range (number f.cplbegf, number f.cplendf) (range_is used)).0

  coupling_bins : (c : ℕ) → c < 7 → c ≡ full_of h.acmod → holds f.cplinu ≡ true → slice_index_or spans c blank_span ≡ coupling_span (number f.cplbegf) (number f.cplendf)
  coupling_bins c few at used =
      let coupled = holds (entry f.chincpl c) in
      let first = c == full_of h.acmod in
      let second = c == full_of h.acmod + 1 in
      let width = number (entry f.chbwcod c) in
      let p : ℕ × ℕ = (number f.cplbegf, number f.cplendf) in
      span_at h f spans c is few
      ∙ ap (λ (t : Bool). span_by t (holds f.cplinu) coupled first second h.lfeon width p) (le-ltb c (full_of h.acmod) (omega (arith, at)))
      ∙ ap (λ (t : Bool). span_by false t coupled first second h.lfeon width p) used
      ∙ ap (λ (t : Bool). span_by false true coupled t second h.lfeon width p) (eq-eqb c (full_of h.acmod) at)

  -- the bins of the coupling channel make whole subbands
  pub coupling_span_is : (c : ℕ) → c < 7 → is_coupling (lead_at spans c) ≡ true → AreSubbands (slice_index_or spans c blank_span)
  coupling_span_is c few found =
      let full = full_is c few found in
      let range = has.range (number f.cplbegf, number f.cplendf) (range_is full.1) in
      subst AreSubbands (sym (coupling_bins c few full.0 full.1)) (subbands_of (number f.cplbegf) (number f.cplendf) range.0 range.1)

  -- the first channel ends where its coefficients do
  pub first_bound : (span_in h f 0).end ≤ 253
  first_bound =
      let some : nat_lt 0 (full_of h.acmod) ≡ true = lt-ltb 0 (full_of h.acmod) (full_some h.acmod has.channels) in
      let end : Bool → ℕ = λ t. (span_by t (holds f.cplinu) (holds (entry f.chincpl 0)) (0 == full_of h.acmod) (0 == full_of h.acmod + 1) h.lfeon (number (entry f.chbwcod 0)) (number f.cplbegf, number f.cplendf)).end in
      subst (λ (t : Bool). end t ≤ 253) (sym some)
      (end_by (holds f.cplinu) (holds (entry f.chincpl 0)) (0 == full_of h.acmod) (0 == full_of h.acmod + 1) h.lfeon (number (entry f.chbwcod 0)) (number f.cplbegf, number f.cplendf)
      (has.free 0 (full_some h.acmod has.channels)) begin_bound)
