-- Two channels that are coupled from bin 49 up to bin 84, for the tests.
use Rattle.std.proofs.Common.{◌≡◌, ℕ, zero, suc, ◌<◌, ◌≤◌, Bool, true, false, List, [], ◌∷◌, Option, Some, None, nat_lt, arith, refl, ap, ap₂, sym, ◌∙◌}
use Rattle.std.specs.Prelude.{◌&&◌, ◌==◌, if◌then◌else◌}
use Rattle.ac_base.specs.declared.spans.Span.{Span}
use Rattle.ac_base.specs.Shape.{coupled_span, coupling_span}
use Rattle.ac_rows.specs.Blocks.{Block}
use Rattle.ac_rows.specs.declared.head.Head.{Head}
use Rattle.ac_rows.specs.Groups.{strategy_of}
use Rattle.ac_rows.specs.Filled.{holds, number, entry, listed, range_of, is_coupled, blank_span, span_in, spans_of, HasSpans}
use Rattle.ac_separation.proofs.Spans.{span_by, in_by}

-- a head of two channels
abbrev pub stereo : Head
stereo = record {
  syncword = 0;
  crc1 = 0;
  fscod = 0;
  frmsizecod = 0;
  bsid = 8;
  bsmod = 0;
  acmod = 2;
  cmixlev = None;
  surmixlev = None;
  dsurmod = None;
  lfeon = false;
  dialnorm = 0;
  compre = false;
  compr = None;
  langcode = false;
  langcod = None;
  audprodie = false;
  mixlevel = None;
  roomtyp = None;
  copyrightb = false;
  origbs = false;
  timecod1e = false;
  timecod1 = None;
  timecod2e = false;
  timecod2 = None;
  addbsie = false;
  addbsil = None;
}

abbrev first_of : Option (ℕ × ℕ) → ℕ
first_of None = 0
first_of (Some p) = p.0

abbrev second_of : Option (ℕ × ℕ) → ℕ
second_of None = 0
second_of (Some p) = p.1

abbrev both : List (Option Bool)
both = Some true ∷ Some true ∷ None ∷ None ∷ None ∷ []

module _ (f : Block) (used : f.cplinu ≡ Some true) (coupled : f.chincpl ≡ both) (begin : f.cplbegf ≡ Some 1) (end : f.cplendf ≡ Some 1) where
  abbrev span_then : ℕ → Span
  span_then c = span_by (nat_lt c 2) true (holds (entry both c)) (c == 2) (c == 3) false (number (entry f.chbwcod c)) (1, 1)

  spans_then : (c : ℕ) → span_in stereo f c ≡ span_then c
  spans_then c =
      in_by stereo f c
      ∙ ap (λ (u : Option Bool). span_by (nat_lt c 2) (holds u) (holds (entry f.chincpl c)) (c == 2) (c == 3) false (number (entry f.chbwcod c)) (number f.cplbegf, number f.cplendf)) used
      ∙ ap (λ (xs : List (Option Bool)). span_by (nat_lt c 2) true (holds (entry xs c)) (c == 2) (c == 3) false (number (entry f.chbwcod c)) (number f.cplbegf, number f.cplendf)) coupled
      ∙ ap₂ (λ (a b : Option ℕ). span_by (nat_lt c 2) true (holds (entry both c)) (c == 2) (c == 3) false (number (entry f.chbwcod c)) (number a, number b)) begin end

  listed_same : {A : Type 0} (n i : ℕ) (g h : ℕ → A) → ((j : ℕ) → g j ≡ h j) → listed n i g ≡ listed n i h
  unfolding listed
  listed_same zero i g h same = refl
  listed_same (suc n) i g h same = ap₂ ◌∷◌ (same i) (listed_same n (suc i) g h same)

  listed_then : coupled_span 1 ∷ coupled_span 1 ∷ coupling_span 1 1 ∷ blank_span ∷ blank_span ∷ blank_span ∷ blank_span ∷ [] ≡ listed 7 0 span_then
  unfolding listed
  listed_then = refl

  pub their_spans : coupled_span 1 ∷ coupled_span 1 ∷ coupling_span 1 1 ∷ blank_span ∷ blank_span ∷ blank_span ∷ blank_span ∷ [] ≡ spans_of stereo f
  their_spans = listed_then ∙ sym (listed_same 7 0 (span_in stereo f) span_then spans_then)

  -- both channels are coupled
  is_there : (i : ℕ) → is_coupled (strategy_of f) i ≡ holds (entry both i)
  is_there i = ap₂ (λ (u : Option Bool) (xs : List (Option Bool)). holds u && holds (entry xs i)) used coupled

  free_width : (i : ℕ) → i < 2 → is_coupled (strategy_of f) i ≡ false → number (entry f.chbwcod i) ≤ 60
  free_width zero few free = let wrong : true ≡ false = sym (is_there 0) ∙ free in absurd (grind arith)
  free_width (suc zero) few free = let wrong : true ≡ false = sym (is_there 1) ∙ free in absurd (grind arith)
  free_width (suc (suc i)) few free = absurd (omega arith)

  range_then : range_of (strategy_of f) ≡ Some (1, 1)
  range_then =
      ap (λ (u : Option Bool). if holds u then Some (number f.cplbegf, number f.cplendf) else None) used
      ∙ ap₂ (λ (a b : Option ℕ). Some (number a, number b)) begin end

  small_pair : (p : ℕ × ℕ) → Some (1, 1) ≡ Some p → (p.0 ≤ 15) × (p.1 ≤ 15)
  small_pair p e =
      let first : 1 ≡ p.0 = ap (λ (o : Option (ℕ × ℕ)). first_of o) e in
      let second : 1 ≡ p.1 = ap (λ (o : Option (ℕ × ℕ)). second_of o) e in
      (omega (arith, first), omega (arith, second))

  pub they_have_spans : HasSpans stereo f
  they_have_spans = record { channels = omega arith; free = free_width; range = λ p e. small_pair p (sym range_then ∙ e) }
