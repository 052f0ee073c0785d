-- Rows of all coded channels, in a block of an array.
use Rattle.std.proofs.Common.{◌≡◌, ℕ, zero, suc, ◌+◌, ◌<◌, ◌≤◌, ◌==◌, Bool, true, false, ◌&&◌, List, [], length, slice_index, Option, refl, ap, ap₂, sym, subst, ◌∙◌, arith, inl, inr}
use Rattle.std.specs.Prelude.{if◌then◌else◌, slice_index_or}
use Rattle.std.specs.Option.{ForSome}
use Rattle.std.proofs.lemmas.Bool.{cases_eq, cases_lt, le-ltb}
use Rattle.std.proofs.lemmas.List.{get_or_past}
use Rattle.std.proofs.lemmas.Bool.Decides.{nat_tests}
use Rattle.ac_base.specs.declared.spans.Span.{Span}
use Rattle.ac_base.specs.Shape.{full_of, next_span, low_span, count_of, IsSpan}
use Rattle.ac_base.proofs.SpanBounds.{span_some, span_end}
use Rattle.ac_alloc.specs.declared.params.Params.{Params}
use Rattle.ac_alloc.specs.Integration.{AreExponents}
use Rattle.ac_alloc.specs.Pointers.{pointer}
use Rattle.ac_expo.specs.Spelling.{Spelling}
use Rattle.ac_rows.specs.Blocks.{Block}
use Rattle.ac_rows.specs.declared.head.Head.{Head}
use Rattle.ac_rows.specs.Groups.{strategy_of}
use Rattle.ac_rows.specs.HeadRows.{head_fields}
use Rattle.ac_rows.specs.BlockRows.{block_fields, AreLawful}
use Rattle.ac_rows.specs.Filled.{holds, listed, range_of, blank_span, span_in, spans_of, filled_of}
use Rattle.ac_record.specs.Channels.{coded_in, is_in}
use Rattle.ac_record.specs.Held.{exponent_by, exponent_in, held_exponents}
use Rattle.ac_record.specs.Readings.{cell, HoldsIn}
use Rattle.ac_reading.specs.Cells.{IsRow, IsPut}
use Rattle.ac_reading.specs.Mantissas.{span_at}
use Rattle.ac_reading.specs.Spells.{Spells}
use Rattle.ac_reading.proofs.Latest.{at_first_listed}
use Rattle.ac_reading.proofs.HeldSpells.{held_spells}
use Rattle.ac_reading.proofs.Rows.{in_false}

-- ---- spans

last_blank : (t : Bool) → (if t && false then low_span else blank_span) ≡ blank_span
last_blank true = refl
last_blank false = refl

blank_later : (used low : Bool) (full c : ℕ) (range : Option (ℕ × ℕ)) → full + count_of used + count_of low ≤ c
    → (if used then (if c == full then next_span range else if c == full + 1 && low then low_span else blank_span) else (if c == full && low then low_span else blank_span)) ≡ blank_span
blank_later true true full c range le = let a : (c == full) ≡ false = grind (arith, nat_tests) in let b : (c == full + 1) ≡ false = grind (arith, nat_tests) in rw (a, b) refl
blank_later true false full c range le = let a : (c == full) ≡ false = grind (arith, nat_tests) in rw a (last_blank (c == full + 1))
blank_later false true full c range le = let a : (c == full) ≡ false = grind (arith, nat_tests) in rw a refl
blank_later false false full c range le = last_blank (c == full)

pub span_blank : (h : Head) (f : Block) (c : ℕ) → coded_in h f ≤ c → span_in h f c ≡ blank_span
span_blank h f c le =
    let past : full_of h.acmod ≤ c = omega arith in
    rw (le-ltb c (full_of h.acmod) past) (blank_later (holds f.cplinu) h.lfeon (full_of h.acmod) c (range_of (strategy_of f)) le)

blank_in : (k : ℕ) → is_in blank_span k ≡ false
blank_in k = in_false blank_span k (λ i. absurd (omega (arith, i.1)))

pub at_span : (h : Head) (f : Block) (spans : List Span) (c : ℕ) → spans ≡ spans_of h f → c < 7 → span_at spans c ≡ span_in h f c
at_span h f spans c e lt = ap (λ (xs : List Span). span_at xs c) e ∙ at_first_listed 7 (span_in h f) c blank_span lt

length-listed : {A : Type 0} (n j : ℕ) (f : ℕ → A) → length (listed n j f) ≡ n
unfolding listed
length-listed zero j f = refl
length-listed (suc n) j f = ap suc (length-listed n (suc j) f)

past_span : (h : Head) (f : Block) (spans : List Span) (c : ℕ) → spans ≡ spans_of h f → 7 ≤ c → span_at spans c ≡ blank_span
past_span h f spans c e le = ap (λ (xs : List Span). span_at xs c) e ∙ get_or_past (listed 7 0 (span_in h f)) c blank_span (omega (arith, length-listed 7 0 (span_in h f)))

pub record IsRange (s : Span) : Type 0 where
  pub order : s.start ≤ s.end
  pub end : s.end ≤ 253

pub span_range : (h : Head) (f : Block) (spans : List Span) → spans ≡ spans_of h f → ((c : ℕ) → c < coded_in h f → IsSpan (span_in h f c)) → (c : ℕ) → IsRange (span_at spans c)
span_range h f spans e coded c = elim (cases_lt c 7) [
  | inl lt ↦ subst IsRange (sym (at_span h f spans c e lt)) (elim (cases_lt c (coded_in h f)) [
    | inl some ↦ (let is = coded c some in let a = span_some (span_in h f c) is in record { order = omega arith; end = span_end (span_in h f c) is })
    | inr none ↦ subst IsRange (sym (span_blank h f c none)) (record { order = omega arith; end = omega arith })
  ])
  | inr le ↦ subst IsRange (sym (past_span h f spans c e le)) (record { order = omega arith; end = omega arith })
]

-- ---- a channel more

pub value_more : (span : ℕ → Span) (g : ℕ → ℕ → ℕ) (b n : ℕ) (row : List ℕ) (old new : List (List (List ℕ))) → IsPut old new n b row → IsRow (span n) (g n) row
    → ((c k : ℕ) → c < n → cell old c b k ≡ (if is_in (span c) k then g c k else 0)) → (c k : ℕ) → c < n + 1 → cell new c b k ≡ (if is_in (span c) k then g c k else 0)
value_more span g b n row old new put has before c k lt = elim (cases_eq c n) [
  | inl e ↦ subst (λ (x : ℕ). cell new x b k ≡ (if is_in (span x) k then g x k else 0)) (sym e) (put.here k ∙ has k)
  | inr ne ↦ put.rest c b k (inl ne) ∙ before c k (omega arith)
]

pub bound_more : (start end : ℕ → ℕ) (b n : ℕ) (row : List ℕ) (old new : List (List (List ℕ))) → IsPut old new n b row → AreExponents (start n) (end n) row
    → ((c : ℕ) → c < n → AreExponents (start c) (end c) (slice_index_or (slice_index_or old c []) b [])) → (c : ℕ) → c < n + 1 → AreExponents (start c) (end c) (slice_index_or (slice_index_or new c []) b [])
bound_more start end b n row old new put has before c lt k low high = elim (cases_eq c n) [
  | inl e ↦ subst (λ (x : ℕ). start x ≤ k → k < end x → cell new x b k ≤ 24) (sym e) (λ l m. omega (arith, put.here k, has k l m)) low high
  | inr ne ↦ (let same = put.rest c b k (inl ne) in let old_small = before c (omega arith) k low high in omega (arith, same, old_small))
]

pub blank_more : (b n : ℕ) (row : List ℕ) (old new : List (List (List ℕ))) → IsPut old new n b row → ((c k : ℕ) → n ≤ c → cell old c b k ≡ 0) → (c k : ℕ) → n + 1 ≤ c → cell new c b k ≡ 0
blank_more b n row old new put before c k le = put.rest c b k (inl (λ e. absurd (omega arith))) ∙ before c k (omega arith)

pub small_more : (b n : ℕ) (row : List ℕ) (old new : List (List (List ℕ))) → IsPut old new n b row → ((k : ℕ) → slice_index row k ≤ 15) → ((c k : ℕ) → cell old c b k ≤ 15) → (c k : ℕ) → cell new c b k ≤ 15
small_more b n row old new put small before c k = elim (cases_eq c n) [
  | inl e ↦ (let here = put.here k in let s = small k in let P : ℕ → Type 0 = λ x. cell new x b k ≤ 15 in subst P (sym e) (omega arith))
  | inr ne ↦ (let same = put.rest c b k (inl ne) in let s = before c k in omega arith)
]

-- all of them
pub holds_from : (h : Head) (f : Block) (b : ℕ) (a : List (List (List ℕ))) (g : ℕ → ℕ → ℕ) (n : ℕ) → coded_in h f ≤ n → ((c k : ℕ) → c < n → cell a c b k ≡ (if is_in (span_in h f c) k then g c k else 0))
    → ((c k : ℕ) → n ≤ c → cell a c b k ≡ 0) → HoldsIn h f b a g
holds_from h f b a g n coded has blank c k hc hk = elim (cases_lt c n) [
  | inl lt ↦ has c k lt
  | inr le ↦
      let e : is_in (span_in h f c) k ≡ false = ap (λ (s : Span). is_in s k) (span_blank h f c (omega arith)) ∙ blank_in k in
      blank c k le ∙ sym (ap (λ (t : Bool). if t then g c k else 0) e)
]

-- ---- exponents

pub exponent_same : (h : Head) (e : List Block) (b f : Block) (c : ℕ) (span : Span) (o : Option (ℕ × Spelling)) → f ≡ filled_of h e b → span ≡ span_in h f c → o ≡ held_exponents h e b c → (k : ℕ) → exponent_by span o k ≡ exponent_in h e b c k
unfolding exponent_in
exponent_same h e b f c span o is at same k = ap₂ (λ (s : Span) (x : Option (ℕ × Spelling)). exponent_by s x k) (at ∙ ap (λ (x : Block). span_in h x c) is) same

pub spells_held : (h : Head) (e : List Block) (b f : Block) (c : ℕ) (span : Span) (o : Option (ℕ × Spelling)) → head_fields.Lawful h → AreLawful h e → (block_fields h e).Lawful b → f ≡ filled_of h e b → span ≡ span_in h f c → o ≡ held_exponents h e b c → c < coded_in h f
    → ForSome o (λ p. Spells p.0 span p.1)
spells_held h e b f c span o head k l is at same coded p there =
    let lt : c < coded_in h (filled_of h e b) = subst (λ (x : Block). c < coded_in h x) is coded in
    subst (λ (s : Span). Spells p.0 s p.1) (sym (at ∙ ap (λ (x : Block). span_in h x c) is)) (held_spells h e b c head k l lt p.0 p.1 (sym same ∙ there))

-- ---- pointers

pub pointer_same : (silent mute : Bool) (p q : Params) (s r : Span) (exps row : List ℕ) (t u : ℕ) → silent ≡ mute → p ≡ q → s ≡ r → t ≡ u → IsRow s (λ k. pointer silent p s exps k t) row → IsRow r (λ k. pointer mute q r exps k u) row
pointer_same silent mute p q s r exps row t u a b c d h =
    subst (λ (x : ℕ). IsRow r (λ k. pointer mute q r exps k x) row) d
    (subst (λ (x : Span). IsRow x (λ k. pointer mute q x exps k t) row) c
    (subst (λ (x : Params). IsRow s (λ k. pointer mute x s exps k t) row) b
    (subst (λ (x : Bool). IsRow s (λ k. pointer x p s exps k t) row) a h)))

-- a bin outside its channel's span is outside the one in the array
pub past_in : (h : Head) (f : Block) (spans : List Span) (c k : ℕ) → spans ≡ spans_of h f → is_in (span_in h f c) k ≡ false → is_in (span_at spans c) k ≡ false
past_in h f spans c k e out = elim (cases_lt c 7) [
  | inl lt ↦ ap (λ (s : Span). is_in s k) (at_span h f spans c e lt) ∙ out
  | inr le ↦ ap (λ (s : Span). is_in s k) (past_span h f spans c e le) ∙ blank_in k
]
