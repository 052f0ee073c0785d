-- The exponents that hold of each coded channel of a block, whichever it is.
use Rattle.std.proofs.Common.{◌≡◌, ◌⊎◌, ℕ, zero, suc, ◌+◌, ◌<◌, ◌≤◌, ◌^◌, ◌==◌, Bool, true, false, ◌&&◌, List, [], slice_index, nat_lt, Option, Some, None, refl, ap, ap₂, sym, subst, ◌∙◌, arith, inl, inr}
use Rattle.std.specs.Prelude.{is_some, not, nat_le, if◌then◌else◌}
use Rattle.std.specs.Option.{option_or, ForSome}
use Rattle.std.proofs.lemmas.Bool.{cases_lt, cases_eq, lt-ltb, le-ltb}
use Rattle.std.proofs.lemmas.Bool.Decides.{nat_tests}
use Rattle.ac_base.specs.declared.spans.Span.{Span}
use Rattle.ac_base.specs.Shape.{full_of, full_span, coupling_span, next_span, low_span, coupling_start, coupling_end, is_stereo, count_of, IsSpan}
use Rattle.ac_base.specs.Spans.{is_coupling}
use Rattle.ac_expo.specs.Spelling.{Spelling}
use Rattle.ac_codec.specs.declared.refused.Row.{Row}
use Rattle.ac_codec.specs.declared.refused.Row.TheVariants.{Chexpstr, Cplexpstr}
use Rattle.ac_codec.specs.Codec.{SlotLawful, reused}
use Rattle.ac_rows.specs.Blocks.{Block}
use Rattle.ac_rows.specs.declared.head.Head.{Head}
use Rattle.ac_rows.specs.Groups.{strategy_of, codes_of, exponents_of}
use Rattle.ac_rows.specs.HeadRows.{head_fields}
use Rattle.ac_rows.specs.Filled.{holds, number, entry, latest_in, latest, channel_coupled, coupling_in, channel_end, range_of, is_coupled, blank_span, span_in, filled_of}
use Rattle.ac_rows.specs.Known.{known_of, end_sent, range_sent, covers, reaches}
use Rattle.ac_rows.specs.Spelled.{spelled_row}
use Rattle.ac_rows.specs.BlockRows.{block_fields, HasSubbands, AreLawful}
use Rattle.ac_rows.proofs.Bounds.{codes_fit}
use Rattle.ac_rows.proofs.FilledSpans.{filled_has_spans}
use Rattle.ac_record.specs.Channels.{coded_in}
use Rattle.ac_record.specs.Held.{with_kind, held_exponents}
use Rattle.ac_reading.specs.Spells.{Spells}
use Rattle.ac_reading.proofs.Fits.{row_spells, spells_less, kinds_most}
use Rattle.ac_reading.proofs.Latest.{Both, both_latest, some_held, at_first_listed}
use Rattle.ac_reading.proofs.Coupling.{filled_range, coupled_range, filled_used, filled_coupled, range_used, width_at}
use Rattle.ac_reading.proofs.HeldFits.{parts, code_rows, exponent_rows, ListIs, full_rows, full_sent, full_latest, full_now, has_there, some_kind, some_same, free_is, coupled_is}

-- ---- full channels

may_reuse : (may : Bool) (row : Row) → reused may row 0 ≡ None → may ≡ true
may_reuse true row e = refl
may_reuse false row e = absurd cc

reuse_asked : (there may : Bool) (kind : ℕ) → there ≡ true → SlotLawful there 0 (λ v. (v < 2 ^ 2) × (reused may Chexpstr v ≡ None)) kind → kind ≡ 0 → may ≡ true
reuse_asked true may kind e h z = let r = rw z at h.1 in may_reuse may Chexpstr r
reuse_asked false may kind e h z = absurd cc

ends_are : (earlier : List Block) (i : ℕ) → i < 5 → entry (known_of earlier).ends i ≡ latest_in (λ before b. end_sent (coupling_in before b) b i) [] earlier
unfolding known_of
ends_are earlier i lt = at_first_listed 5 (λ j. latest_in (λ before b. end_sent (coupling_in before b) b j) [] earlier) i None lt

widths_are : (earlier : List Block) (i : ℕ) → i < 5 → entry (known_of earlier).widths i ≡ latest (λ d. entry d.chbwcod i) earlier
unfolding known_of
widths_are earlier i lt = at_first_listed 5 (λ j. latest (λ d. entry d.chbwcod j) earlier) i None lt

and_zero : (a b : Bool) (kind : ℕ) → kind ≡ 0 → (a && (b && nat_lt 0 kind)) ≡ false
and_zero true true kind e = rw e refl
and_zero true false kind e = refl
and_zero false b kind e = refl

full_span_is : (h : Head) (earlier : List Block) (b : Block) (i : ℕ) → i < 5 → i < full_of h.acmod
    → span_in h (filled_of h earlier b) i ≡ full_span (number (if channel_coupled (coupling_in earlier b) i then None else option_or (entry b.chbwcod i) (latest (λ d. entry d.chbwcod i) earlier))) (if channel_coupled (coupling_in earlier b) i then (coupling_in earlier b).range else None)
full_span_is h earlier b i small lt =
    let f = filled_of h earlier b in
    let c = coupling_in earlier b in
    rw (lt-ltb i (full_of h.acmod) lt)
    (ap₂ (λ (w : Option ℕ) (r : Option (ℕ × ℕ)). full_span (number w) r) (width_at h earlier b i small lt)
    (ap₂ (λ (t : Bool) (r : Option (ℕ × ℕ)). if t then r else None) (filled_coupled h earlier b i small lt) (filled_range h earlier b)))

narrow_if : (coupled : Bool) (o : Option ℕ) → (coupled ≡ false → number o ≤ 60) → number (if coupled then None else o) ≤ 60
narrow_if true o h = omega arith
narrow_if false o h = h refl

full_spells : (h : Head) (earlier : List Block) (b : Block) (i : ℕ) → head_fields.Lawful h → AreLawful h earlier → (block_fields h earlier).Lawful b → i < 5 → i < full_of h.acmod
    → (kind : ℕ) (s : Spelling) → option_or (full_sent i b) (latest (full_sent i) earlier) ≡ Some (kind, s) → Spells kind (span_in h (filled_of h earlier b) i) s
full_spells h earlier b i head k l small lt kind s e =
    let c = coupling_in earlier b in
    let p = parts h earlier b k l in
    let r = full_rows h earlier b i small p in
    let own = entry b.chbwcod i in
    let kept = latest (λ d. entry d.chbwcod i) earlier in
    let coupled = channel_coupled c i in
    let has = filled_has_spans h earlier b head k l in
    let width = width_at h earlier b i small lt in
    let narrow : number (if coupled then None else option_or own kept) ≤ 60 =
    narrow_if coupled (option_or own kept) (λ free.
    let g = has.free i lt (filled_coupled h earlier b i small lt ∙ free) in
    let w : number (entry (filled_of h earlier b).chbwcod i) ≡ number (option_or own kept) = ap number width ∙ ap (λ (t : Bool). number (if t then None else option_or own kept)) free in
    omega (arith, g, w)) in
    let reach : slice_index b.chexpstr i ≡ 0 → reaches (latest_in (λ before d. end_sent (coupling_in before d) d i) [] earlier) (channel_end c i kept) ≡ true =
    λ z. ap₂ (λ (m w : Option ℕ). reaches m (channel_end c i w)) (sym (ends_are earlier i small)) (sym (widths_are earlier i small))
    ∙ reuse_asked (nat_lt i (full_of h.acmod)) (reaches (entry (known_of earlier).ends i) (channel_end c i (entry (known_of earlier).widths i))) (slice_index b.chexpstr i) (lt-ltb i (full_of h.acmod) lt) r.kind z in
    subst (λ (span : Span). Spells kind span s) (sym (full_span_is h earlier b i small lt))
    (full_now (slice_index b.chexpstr i) (entry b.exps i) coupled c.range own kept i (latest (full_sent i) earlier) (latest_in (λ before d. end_sent (coupling_in before d) d i) [] earlier)
    r.small r.list r.used p.range (has_there (full_of h.acmod) i (slice_index b.chexpstr i) coupled own lt r.width)
    (λ z. r.width ∙ and_zero (nat_lt i (full_of h.acmod)) (not coupled) (slice_index b.chexpstr i) z)
    narrow (full_latest h i small lt earlier k) reach kind s e)

-- ---- the coupling channel

-- the list was sent for this range
pub record SharedFits (p : ℕ × Spelling) (r : ℕ × ℕ) : Type 0 where
  pub span : Span
  pub spells : Spells p.0 span p.1
  pub start : span.start ≡ coupling_start r.0
  pub lead : is_coupling span.lead ≡ true
  pub end : span.end ≡ coupling_end r.1

shared_is : (range : Option (ℕ × ℕ)) → HasSubbands range → (p : ℕ × ℕ) → range ≡ Some p → IsSpan (coupling_span p.0 p.1)
shared_is range h p e = let r = h p e in (p.0, p.1, r.0, r.1, r.2, refl, refl)

shared_both : (kind : ℕ) (o : Option Spelling) (range : Option (ℕ × ℕ)) (channel : ℕ) → kind ≤ 3 → ListIs kind (next_span range) channel o → (0 < kind → is_some range ≡ true) → HasSubbands range
    → Both SharedFits (with_kind kind o) (if kind == 0 then None else range)
shared_both zero None range channel small list used subbands = tt
shared_both zero (Some s) range channel small list used subbands = let e : true ≡ false = list.0 in absurd cc
shared_both (suc n) None range channel small list used subbands = let e : false ≡ true = list.0 ∙ lt-ltb 0 (suc n) (omega arith) in absurd cc
shared_both (suc n) (Some s) None channel small list used subbands = let e : false ≡ true = used (omega arith) in absurd cc
shared_both (suc n) (Some s) (Some p) channel small list used subbands =
    let is = shared_is (Some p) subbands p refl in
    rw (some_kind n) (record { span = coupling_span p.0 p.1; spells = row_spells (suc n) (coupling_span p.0 p.1) channel s (omega arith, small) is (list.1 s refl); start = refl; lead = refl; end = refl })

pub shared_sent : Block → Option (ℕ × Spelling)
shared_sent b = with_kind (number b.cplexpstr) b.cplabsexp

shared_each : (h : Head) (before : List Block) (b : Block) → AreLawful h before → (block_fields h before).Lawful b → Both SharedFits (shared_sent b) (range_sent (coupling_in before b) b)
unfolding shared_sent
shared_each h before b k l =
    let p = parts h before b k l in
    let c = coupling_in before b in
    let fit = codes_fit (full_of h.acmod) (is_stereo h.acmod) h.lfeon (known_of before) c (codes_of b) p.codes in
    let x = exponent_rows (full_of h.acmod) c (codes_of b) (exponents_of b) p.exponents in
    shared_both (number b.cplexpstr) b.cplabsexp c.range (full_of h.acmod) fit.shared x.0 fit.used p.range

covered : (p q : ℕ × ℕ) → (p.0 == q.0 && nat_le q.1 p.1) ≡ true → (p.0 ≡ q.0) × (q.1 ≤ p.1)
covered p q e = (grind (arith, nat_tests), grind (arith, nat_tests))

kept_shared : (kind : ℕ) (s : Spelling) (m r : ℕ × ℕ) → SharedFits (kind, s) m → IsSpan (coupling_span r.0 r.1) → (m.0 == r.0 && nat_le r.1 m.1) ≡ true → Spells kind (coupling_span r.0 r.1) s
kept_shared kind s m r f is may =
    let c = covered m r may in
    let kinds = f.spells.is_kind in
    let three = kinds_most f.span.lead in
    let same : coupling_start r.0 ≡ coupling_start m.0 = ap coupling_start (sym c.0) in
    spells_less kind f.span (coupling_span r.0 r.1) s (same ∙ sym f.start) (sym f.lead) (omega (arith, f.end, c.1)) (kinds.0, omega (arith, kinds.1, three)) is f.spells

shared_now : (cpl : Option ℕ) (o : Option Spelling) (r : ℕ × ℕ) (channel : ℕ) (L : Option (ℕ × Spelling)) (E : Option (ℕ × ℕ)) → ListIs (number cpl) (coupling_span r.0 r.1) channel o → number cpl ≤ 3
    → (is_some cpl ≡ true) → ForSome cpl (λ v. (v < 2 ^ 2) × (reused (covers E (Some r)) Cplexpstr v ≡ None)) → IsSpan (coupling_span r.0 r.1) → Both SharedFits L E
    → (k : ℕ) (s : Spelling) → option_or (with_kind (number cpl) o) L ≡ Some (k, s) → Spells k (coupling_span r.0 r.1) s
shared_now None o r channel L E list small there asked is fits k s e = let f : false ≡ true = there in absurd cc
shared_now (Some zero) (Some t) r channel L E list small there asked is fits k s e = let f : true ≡ false = list.0 in absurd cc
shared_now (Some zero) None r channel None E list small there asked is fits k s e = absurd cc
shared_now (Some zero) None r channel (Some p) None list small there asked is fits k s e = absurd fits
shared_now (Some zero) None r channel (Some p) (Some m) list small there asked is fits k s e =
    let same : p ≡ (k, s) = cc in
    let f : SharedFits (k, s) m = subst (λ (q : ℕ × Spelling). SharedFits q m) same fits in
    kept_shared k s m r f is (may_reuse (m.0 == r.0 && nat_le r.1 m.1) Cplexpstr (asked zero refl).1)
shared_now (Some (suc n)) None r channel L E list small there asked is fits k s e = let f : false ≡ true = list.0 ∙ lt-ltb 0 (suc n) (omega arith) in absurd cc
shared_now (Some (suc n)) (Some t) r channel L E list small there asked is fits k s e =
    let both : ◌≡◌ {A = ℕ × Spelling} (suc n, t) (k, s) = some_same (suc n, t) (k, s) e in
    let kind : suc n ≡ k = ap (λ (q : ℕ × Spelling). q.0) both in
    let same : t ≡ s = ap (λ (q : ℕ × Spelling). q.1) both in
    let row = row_spells (suc n) (coupling_span r.0 r.1) channel t (omega arith, small) is (list.1 t refl) in
    subst (λ (q : ℕ). Spells q (coupling_span r.0 r.1) s) kind (subst (λ (q : Spelling). Spells (suc n) (coupling_span r.0 r.1) q) same row)

sent_is : (earlier : List Block) → (known_of earlier).sent ≡ latest_in (λ before b. range_sent (coupling_in before b) b) [] earlier
unfolding known_of
sent_is earlier = refl

range_there : (o : Option (ℕ × ℕ)) → is_some o ≡ true → (p : ℕ × ℕ) × (o ≡ Some p)
range_there None e = absurd cc
range_there (Some p) e = (p, refl)

shared_spells : (h : Head) (earlier : List Block) (b : Block) → AreLawful h earlier → (block_fields h earlier).Lawful b → holds (filled_of h earlier b).cplinu ≡ true
    → (kind : ℕ) (s : Spelling) → option_or (shared_sent b) (latest shared_sent earlier) ≡ Some (kind, s) → Spells kind (next_span (range_of (strategy_of (filled_of h earlier b)))) s
unfolding shared_sent
shared_spells h earlier b k l used kind s e =
    let c = coupling_in earlier b in
    let p = parts h earlier b k l in
    let some : is_some c.range ≡ true = range_used earlier b ∙ (sym (filled_used h earlier b) ∙ used) in
    let r = range_there c.range some in
    let fit = codes_fit (full_of h.acmod) (is_stereo h.acmod) h.lfeon (known_of earlier) c (codes_of b) p.codes in
    let rows = code_rows (full_of h.acmod) (is_stereo h.acmod) h.lfeon (known_of earlier) c (codes_of b) p.codes in
    let x = exponent_rows (full_of h.acmod) c (codes_of b) (exponents_of b) p.exponents in
    let E = latest_in (λ before d. range_sent (coupling_in before d) d) [] earlier in
    let list : ListIs (number b.cplexpstr) (coupling_span r.0.0 r.0.1) (full_of h.acmod) b.cplabsexp = subst (λ (o : Option (ℕ × ℕ)). ListIs (number b.cplexpstr) (next_span o) (full_of h.acmod) b.cplabsexp) r.1 x.0 in
    let asked : ForSome b.cplexpstr (λ v. (v < 2 ^ 2) × (reused (covers E (Some r.0)) Cplexpstr v ≡ None)) =
    subst (λ (o : Option (ℕ × ℕ)). ForSome b.cplexpstr (λ v. (v < 2 ^ 2) × (reused (covers o (Some r.0)) Cplexpstr v ≡ None))) (sent_is earlier)
    (subst (λ (o : Option (ℕ × ℕ)). ForSome b.cplexpstr (λ v. (v < 2 ^ 2) × (reused (covers (known_of earlier).sent o) Cplexpstr v ≡ None))) r.1 rows.0.1) in
    subst (λ (o : Option (ℕ × ℕ)). Spells kind (next_span o) s) (sym (filled_range h earlier b ∙ r.1))
    (shared_now b.cplexpstr b.cplabsexp r.0 (full_of h.acmod) (latest shared_sent earlier) E list fit.shared (rows.0.0 ∙ some) asked (shared_is c.range p.range r.0 r.1)
    (both_latest SharedFits (λ _. shared_sent) (λ before d. range_sent (coupling_in before d) d) h (shared_each h) [] earlier tt k) kind s e)

-- ---- LFE

pub low_sent : Block → Option (ℕ × Spelling)
low_sent b = with_kind 1 b.lfeexps

low_one : (o : Option Spelling) (channel : ℕ) → ForSome o (spelled_row 1 low_span channel).Lawful → ForSome (with_kind 1 o) (λ q. Spells q.0 low_span q.1)
low_one None channel h q e = absurd cc
low_one (Some s) channel h q e =
    let same : (1, s) ≡ q = cc in
    let is : IsSpan low_span = (refl, refl) in
    subst (λ (x : ℕ × Spelling). Spells x.0 low_span x.1) same (row_spells 1 low_span channel s (omega arith, omega arith) is (h s refl))

low_each : (h : Head) (before : List Block) (b : Block) → AreLawful h before → (block_fields h before).Lawful b → ForSome (low_sent b) (λ q. Spells q.0 low_span q.1)
unfolding low_sent
low_each h before b k l =
    let p = parts h before b k l in
    let c = coupling_in before b in
    let x = exponent_rows (full_of h.acmod) c (codes_of b) (exponents_of b) p.exponents in
    low_one b.lfeexps (full_of h.acmod + count_of (is_some c.range)) x.2

low_spells : (h : Head) (earlier : List Block) (b : Block) → AreLawful h earlier → (block_fields h earlier).Lawful b
    → (kind : ℕ) (s : Spelling) → option_or (low_sent b) (latest low_sent earlier) ≡ Some (kind, s) → Spells kind low_span s
low_spells h earlier b k l kind s e = some_held (λ q. Spells q.0 low_span q.1) (λ _. low_sent) h earlier b (low_each h) k l (kind, s) e

-- ---- whichever

later_used : (low : Bool) (full c : ℕ) (range : Option (ℕ × ℕ)) → full ≤ c → (c ≡ full → ⊥) → c < full + 1 + count_of low
    → ((true && c == full) ≡ false) × ((if c == full then next_span range else if c == full + 1 && low then low_span else blank_span) ≡ low_span)
later_used true full c range le ne lt =
    let e : (c == full) ≡ false = grind (arith, nat_tests) in
    let next : c ≡ full + 1 = omega arith in
    let t : (c == full + 1) ≡ true = grind (arith, nat_tests) in
    (e, rw (e, t) refl)
later_used false full c range le ne lt = absurd (omega arith)

later_is : (used low : Bool) (full c : ℕ) (range : Option (ℕ × ℕ)) → full ≤ c → c < full + count_of used + count_of low
    → ((used ≡ true) × ((used && c == full) ≡ true) × ((if used then (if c == full then next_span range else if c == full + 1 && low then low_span else blank_span) else (if c == full && low then low_span else blank_span)) ≡ next_span range))
    ⊎ (((used && c == full) ≡ false) × ((if used then (if c == full then next_span range else if c == full + 1 && low then low_span else blank_span) else (if c == full && low then low_span else blank_span)) ≡ low_span))
later_is true low full c range le lt = elim (cases_eq c full) [
  | inl e ↦ (let u : (c == full) ≡ true = grind (arith, nat_tests) in inl (refl, u, rw u refl))
  | inr ne ↦ inr (later_used low full c range le ne lt)
]
later_is false true full c range le lt = let e : (c == full) ≡ true = grind (arith, nat_tests) in inr (refl, rw e refl)
later_is false false full c range le lt = absurd (omega arith)

-- what a block sends of it
abbrev sent_by : Bool → Bool → ℕ → Block → Option (ℕ × Spelling)
sent_by full shared c b = if full then full_sent c b else if shared then shared_sent b else low_sent b

abbrev held_by : Bool → Bool → ℕ → List Block → Block → Option (ℕ × Spelling)
held_by full shared c earlier b = option_or (sent_by full shared c b) (latest (sent_by full shared c) earlier)

abbrev later_span : Head → Block → ℕ → Span
later_span h f c =
    let full = full_of h.acmod in
    let range = range_of (strategy_of f) in
    if holds f.cplinu then (if c == full then next_span range else if c == full + 1 && h.lfeon then low_span else blank_span) else (if c == full && h.lfeon then low_span else blank_span)

span_later : (h : Head) (f : Block) (c : ℕ) → nat_lt c (full_of h.acmod) ≡ false → span_in h f c ≡ later_span h f c
span_later h f c e = ap (λ (x : Bool). if x then full_span (number (entry f.chbwcod c)) (if is_coupled (strategy_of f) c then range_of (strategy_of f) else None) else later_span h f c) e

pub full_most : (acmod : ℕ) → full_of acmod ≤ 5
full_most zero = omega arith
full_most (suc zero) = omega arith
full_most (suc (suc zero)) = omega arith
full_most (suc (suc (suc zero))) = omega arith
full_most (suc (suc (suc (suc zero)))) = omega arith
full_most (suc (suc (suc (suc (suc zero))))) = omega arith
full_most (suc (suc (suc (suc (suc (suc zero)))))) = omega arith
full_most (suc (suc (suc (suc (suc (suc (suc zero))))))) = omega arith
full_most (suc (suc (suc (suc (suc (suc (suc (suc n)))))))) = omega arith

pub held_spells : (h : Head) (earlier : List Block) (b : Block) (c : ℕ) → head_fields.Lawful h → AreLawful h earlier → (block_fields h earlier).Lawful b → c < coded_in h (filled_of h earlier b)
    → (kind : ℕ) (s : Spelling) → held_exponents h earlier b c ≡ Some (kind, s) → Spells kind (span_in h (filled_of h earlier b) c) s
unfolding shared_sent low_sent
held_spells h earlier b c head k l coded kind s e =
    let f = filled_of h earlier b in
    let full = full_of h.acmod in
    let shared = holds f.cplinu && c == full in
    elim (cases_lt c full) [
      | inl lt ↦
          let m = full_most h.acmod in
          let same : held_by (nat_lt c full) shared c earlier b ≡ held_by true shared c earlier b = ap (λ (x : Bool). held_by x shared c earlier b) (lt-ltb c full lt) in
          full_spells h earlier b c head k l (omega arith) lt kind s (sym same ∙ e)
      | inr le ↦
          let t = le-ltb c full le in
          let other : held_by (nat_lt c full) shared c earlier b ≡ held_by false shared c earlier b = ap (λ (x : Bool). held_by x shared c earlier b) t in
          elim (later_is (holds f.cplinu) h.lfeon full c (range_of (strategy_of f)) le coded) [
            | inl here ↦
                let same : held_by false shared c earlier b ≡ held_by false true c earlier b = ap (λ (x : Bool). held_by false x c earlier b) here.1 in
                subst (λ (span : Span). Spells kind span s) (sym (span_later h f c t ∙ here.2)) (shared_spells h earlier b k l here.0 kind s (sym (other ∙ same) ∙ e))
            | inr low ↦
                let same : held_by false shared c earlier b ≡ held_by false false c earlier b = ap (λ (x : Bool). held_by false x c earlier b) low.0 in
                subst (λ (span : Span). Spells kind span s) (sym (span_later h f c t ∙ low.1)) (low_spells h earlier b k l kind s (sym (other ∙ same) ∙ e))
          ]
    ]

-- ---- the spans of a filled block

range_parts : (h : Head) (earlier : List Block) (b : Block) → AreLawful h earlier → (block_fields h earlier).Lawful b → HasSubbands (range_of (strategy_of (filled_of h earlier b)))
range_parts h earlier b k l = subst HasSubbands (sym (filled_range h earlier b)) (parts h earlier b k l).range

next_is : (used : Bool) (a b : ℕ) → used ≡ true → HasSubbands (if used then Some (a, b) else None) → IsSpan (next_span (if used then Some (a, b) else None))
next_is true a b e h = shared_is (Some (a, b)) h (a, b) refl
next_is false a b e h = absurd cc

coupled_cases : (width : Option ℕ) (coupled : Bool) (range : Option (ℕ × ℕ)) → HasSubbands range → (coupled ≡ false → number width ≤ 60) → (coupled ≡ true → is_some range ≡ true) → IsSpan (full_span (number width) (if coupled then range else None))
coupled_cases width false range h w u = free_is (number width) (w refl)
coupled_cases width true None h w u = let e : false ≡ true = u refl in absurd cc
coupled_cases width true (Some p) h w u = coupled_is p.0 (h p refl).0

low_is : IsSpan low_span
low_is = (refl, refl)

pub coded_is_span : (h : Head) (earlier : List Block) (b : Block) (c : ℕ) → head_fields.Lawful h → AreLawful h earlier → (block_fields h earlier).Lawful b → c < coded_in h (filled_of h earlier b) → IsSpan (span_in h (filled_of h earlier b) c)
coded_is_span h earlier b c head k l coded =
    let f = filled_of h earlier b in
    let full = full_of h.acmod in
    let s = strategy_of f in
    let has = filled_has_spans h earlier b head k l in
    elim (cases_lt c full) [
      | inl lt ↦
          let m = full_most h.acmod in
          let small : c < 5 = omega arith in
          let e : span_in h f c ≡ full_span (number (entry f.chbwcod c)) (if is_coupled s c then range_of s else None) = ap (λ (x : Bool). if x then full_span (number (entry f.chbwcod c)) (if is_coupled s c then range_of s else None) else later_span h f c) (lt-ltb c full lt) in
          subst IsSpan (sym e) (coupled_cases (entry f.chbwcod c) (is_coupled s c) (range_of s) (range_parts h earlier b k l) (λ free. has.free c lt free)
          (λ on. ap is_some (filled_range h earlier b) ∙ coupled_range earlier b c small (sym (filled_coupled h earlier b c small lt) ∙ on)))
      | inr le ↦
          elim (later_is (holds f.cplinu) h.lfeon full c (range_of s) le coded) [
            | inl here ↦ subst IsSpan (sym (span_later h f c (le-ltb c full le) ∙ here.2)) (next_is (holds f.cplinu) (number f.cplbegf) (number f.cplendf) here.0 (range_parts h earlier b k l))
            | inr low ↦ subst IsSpan (sym (span_later h f c (le-ltb c full le) ∙ low.1)) low_is
          ]
    ]
