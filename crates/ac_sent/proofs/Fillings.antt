-- What a block that is sent has when it is filled.
use Rattle.std.proofs.Common.{◌≡◌, ◌⊎◌, ℕ, ◌+◌, ◌<◌, ◌≤◌, ◌&&◌, Bool, true, false, List, Option, Some, None, nat_lt, refl, ap, sym, ◌∙◌, inl, inr, arith}
use Rattle.std.specs.Prelude.{is_some, not, if◌then◌else◌, ◌==◌}
use Rattle.std.proofs.lemmas.Bool.{lt-ltb, ltb-true, le-ltb, eq-eqb, ne_eqb, cases_lt, cases_eq}
use Rattle.ac_base.specs.declared.shapes.Shape.{Shape}
use Rattle.ac_base.specs.declared.spans.Span.{Span}
use Rattle.ac_base.specs.Shape.{full_of, count_of, full_span, next_span, low_span}
use Rattle.ac_expo.specs.Raw.{channel_span, channels}
use Rattle.ac_rows.specs.Blocks.{Block}
use Rattle.ac_rows.specs.declared.groups.Coupling.{Coupling}
use Rattle.ac_rows.specs.Groups.{strategy_of}
use Rattle.ac_rows.specs.Filled.{entry, holds, number, held, needed, channel_coupled, coupling_in, range_of, is_coupled, blank_span, filled_of, span_in}
use Rattle.ac_sent.specs.Values.{Quantised}
use Rattle.ac_sent.specs.Asked.{IsQuantised}
use Rattle.ac_sent.specs.Fields.{when, sent_head, sent_fields, sent_block, begin_code, end_code, low_number}
use Rattle.ac_sent.proofs.Listed.{entry_at}
use Rattle.ac_sent.proofs.Tests.{and_true}
use Rattle.ac_sent.proofs.Spans.{span_full, span_next, span_low, full_most}
use Rattle.ac_sent.proofs.SharedRows.{channel_is_coupled}
use Rattle.ac_sent.proofs.Earlier.{sent_before, held_sent}
use Rattle.ac_sent.proofs.Coupling.{coupling_sent, entries_held}
use Rattle.ac_sent.proofs.Reuse.{width_held}

-- block b as it is filled, in a frame with this head
abbrev pub filled_block : Quantised → ℕ → ℕ → ℕ → Block
filled_block q frmsizecod crc1 b = filled_of (sent_head q.shape frmsizecod crc1) (sent_before q b) (sent_block q b)

-- ---- which channels there are
later_cases : (full : ℕ) (used low : Bool) (c : ℕ) → full ≤ c → c < full + count_of used + count_of low → ((used ≡ true) × (c ≡ full)) ⊎ ((low ≡ true) × (c ≡ full + count_of used + count_of false))
later_cases full true true c le lt = elim (cases_eq c full) [ inl e ↦ inl (refl, e) | inr ne ↦ inr (refl, omega arith) ]
later_cases full true false c le lt = inl (refl, omega arith)
later_cases full false true c le lt = inr (refl, omega arith)
later_cases full false false c le lt = absurd (omega arith)

pub channel_cases : (shape : Shape) (c : ℕ) → c < channels shape
    → (nat_lt c (full_of shape.acmod) ≡ true) ⊎ (((is_some shape.couple ≡ true) × (c ≡ full_of shape.acmod)) ⊎ ((shape.lfe ≡ true) × (c ≡ low_number shape)))
channel_cases shape c lt = elim (cases_lt c (full_of shape.acmod)) [
  | inl less ↦ inl (lt-ltb c (full_of shape.acmod) less)
  | inr more ↦ inr (later_cases (full_of shape.acmod) (is_some shape.couple) shape.lfe c more lt)
]

-- ---- values that are needed
needed_there : {A : Type 0} (there : Bool) (f : Block → Option A) (earlier : List Block) (b : Block) → there ≡ true → needed there f earlier b ≡ held f earlier b
needed_there there f earlier b e = rw e refl

-- ---- the coupling
used_filled : (q : Quantised) (b : ℕ) → is_some (coupling_in (sent_before q b) (sent_block q b)).range ≡ is_some q.shape.couple
used_filled q b = ap (λ (c : Coupling). is_some c.range) (coupling_sent q b)

inu_held : (q : Quantised) (b : ℕ) → held (λ d. d.cplinu) (sent_before q b) (sent_block q b) ≡ Some (is_some q.shape.couple)
unfolding sent_fields
inu_held q b = held_sent q (λ d. d.cplinu) (Some (is_some q.shape.couple)) refl (λ n. inl refl) b

begin_held : (q : Quantised) (b : ℕ) → held (λ d. d.cplbegf) (sent_before q b) (sent_block q b) ≡ when (is_some q.shape.couple) (begin_code q.shape.couple)
unfolding sent_fields
begin_held q b = held_sent q (λ d. d.cplbegf) (when (is_some q.shape.couple) (begin_code q.shape.couple)) refl (λ n. inl refl) b

end_held : (q : Quantised) (b : ℕ) → held (λ d. d.cplendf) (sent_before q b) (sent_block q b) ≡ when (is_some q.shape.couple) (end_code q.shape.couple)
unfolding sent_fields
end_held q b = held_sent q (λ d. d.cplendf) (when (is_some q.shape.couple) (end_code q.shape.couple)) refl (λ n. inl refl) b

chincpl_held : (q : Quantised) (b i : ℕ) → i < 5 → held (λ d. entry d.chincpl i) (sent_before q b) (sent_block q b) ≡ when (is_some q.shape.couple && nat_lt i (full_of q.shape.acmod)) true
unfolding sent_fields
chincpl_held q b i lt = entries_held q (λ d. d.chincpl) 5 (λ k. when (is_some q.shape.couple && nat_lt k (full_of q.shape.acmod)) true) refl (λ m. refl) b i lt

pub filled_inu : (q : Quantised) (frmsizecod crc1 b : ℕ) → holds (filled_block q frmsizecod crc1 b).cplinu ≡ is_some q.shape.couple
unfolding filled_of
filled_inu q code crc1 b = ap holds (inu_held q b)

range_from : (couple : Option (ℕ × ℕ)) (u : Option Bool) (t : Bool) (a e x y : Option ℕ) → u ≡ Some (is_some couple) → t ≡ is_some couple → a ≡ when (is_some couple) (begin_code couple) → e ≡ when (is_some couple) (end_code couple)
    → (if holds u then Some (number (if t then a else x), number (if t then e else y)) else None) ≡ couple
range_from None u t a e x y p r g h = rw p refl
range_from (Some c) u t a e x y p r g h = rw (p, r, g, h) refl

pub filled_range : (q : Quantised) (frmsizecod crc1 b : ℕ) → range_of (strategy_of (filled_block q frmsizecod crc1 b)) ≡ q.shape.couple
unfolding filled_of
filled_range q code crc1 b =
    range_from q.shape.couple (held (λ d. d.cplinu) (sent_before q b) (sent_block q b)) (is_some (coupling_in (sent_before q b) (sent_block q b)).range)
    (held (λ d. d.cplbegf) (sent_before q b) (sent_block q b)) (held (λ d. d.cplendf) (sent_before q b) (sent_block q b)) (sent_block q b).cplbegf (sent_block q b).cplendf
    (inu_held q b) (used_filled q b) (begin_held q b) (end_held q b)

coupled_from : (coupled here t : Bool) (u o x : Option Bool) → here ≡ true → u ≡ Some coupled → t ≡ coupled → o ≡ when (coupled && here) true → (holds u && holds (if t && here then o else x)) ≡ coupled
coupled_from true true t u o x e p r h = rw (p, r, h) refl
coupled_from false true t u o x e p r h = rw p refl
coupled_from coupled false t u o x e p r h = absurd cc

pub filled_coupled : (q : Quantised) (frmsizecod crc1 b i : ℕ) → nat_lt i (full_of q.shape.acmod) ≡ true → is_coupled (strategy_of (filled_block q frmsizecod crc1 b)) i ≡ is_some q.shape.couple
unfolding filled_of
filled_coupled q code crc1 b i here =
    let lt : i < 5 = omega (arith, ltb-true i (full_of q.shape.acmod) here, full_most q.shape) in
    let t = is_some (coupling_in (sent_before q b) (sent_block q b)).range in
    let u = held (λ d. d.cplinu) (sent_before q b) (sent_block q b) in
    let at = entry_at 5 (λ k. needed (t && nat_lt k (full_of q.shape.acmod)) (λ d. entry d.chincpl k) (sent_before q b) (sent_block q b)) i None lt in
    ap (λ (o : Option Bool). holds u && holds o) at
    ∙ coupled_from (is_some q.shape.couple) (nat_lt i (full_of q.shape.acmod)) t u (held (λ d. entry d.chincpl i) (sent_before q b) (sent_block q b)) (entry (sent_block q b).chincpl i) here (inu_held q b) (used_filled q b) (chincpl_held q b i lt)

-- ---- bandwidths
width_from : (coupled here t : Bool) (o x : Option ℕ) (bw : ℕ) → here ≡ true → t ≡ coupled → o ≡ when (not coupled) bw → (if t then None else (if here then o else x)) ≡ when (not coupled) bw
width_from true true t o x bw e p h = rw p refl
width_from false true t o x bw e p h = rw (p, h) refl
width_from coupled false t o x bw e p h = absurd cc

coupled_now : (q : Quantised) (b i : ℕ) → nat_lt i (full_of q.shape.acmod) ≡ true → channel_coupled (coupling_in (sent_before q b) (sent_block q b)) i ≡ is_some q.shape.couple
coupled_now q b i here =
    let lt : i < 5 = omega (arith, ltb-true i (full_of q.shape.acmod) here, full_most q.shape) in
    ap (λ (c : Coupling). channel_coupled c i) (coupling_sent q b)
    ∙ (channel_is_coupled (full_of q.shape.acmod) q.shape.couple i lt ∙ (ap (λ (t : Bool). is_some q.shape.couple && t) here ∙ and_true (is_some q.shape.couple)))

pub filled_width : (q : Quantised) → IsQuantised q → (frmsizecod crc1 b i : ℕ) → nat_lt i (full_of q.shape.acmod) ≡ true → entry (filled_block q frmsizecod crc1 b).chbwcod i ≡ when (not (is_some q.shape.couple)) q.shape.bw
unfolding filled_of
filled_width q is code crc1 b i here =
    let lt : i < 5 = omega (arith, ltb-true i (full_of q.shape.acmod) here, full_most q.shape) in
    let c = coupling_in (sent_before q b) (sent_block q b) in
    entry_at 5 (λ k. if channel_coupled c k then None else needed (nat_lt k (full_of q.shape.acmod)) (λ d. entry d.chbwcod k) (sent_before q b) (sent_block q b)) i None lt
    ∙ width_from (is_some q.shape.couple) (nat_lt i (full_of q.shape.acmod)) (channel_coupled c i) (held (λ d. entry d.chbwcod i) (sent_before q b) (sent_block q b)) (entry (sent_block q b).chbwcod i) q.shape.bw here (coupled_now q b i here) (width_held q is b i here)

-- ---- spans
full_by : (couple : Option (ℕ × ℕ)) (bw : ℕ) → full_span (number (when (not (is_some couple)) bw)) (if is_some couple then couple else None) ≡ full_span bw couple
full_by None bw = refl
full_by (Some p) bw = refl

-- the bins of a channel by its number, as `span_in` has them
abbrev picked : ℕ → ℕ → Bool → Bool → Span → Span → Span
picked full c used low here shared =
    if nat_lt c full then here
    else if used then (if c == full then shared else if c == full + 1 && low then low_span else blank_span)
    else (if c == full && low then low_span else blank_span)

picked_full : (full c : ℕ) (used low : Bool) (here shared : Span) → nat_lt c full ≡ true → picked full c used low here shared ≡ here
picked_full full c used low here shared e = rw e refl

picked_shared : (full c : ℕ) (used low : Bool) (here shared : Span) → c ≡ full → used ≡ true → picked full c used low here shared ≡ shared
picked_shared full c used low here shared e u = rw (le-ltb c full (omega (arith, e)), u, eq-eqb c full e) refl

picked_low : (full c : ℕ) (used coupled low : Bool) (here shared : Span) → c ≡ full + count_of coupled + count_of false → used ≡ coupled → low ≡ true → picked full c used low here shared ≡ low_span
picked_low full c used true low here shared e u l = rw (le-ltb c full (omega (arith, e)), u, l, ne_eqb c full (omega (arith, e)), eq-eqb c (full + 1) (omega (arith, e))) refl
picked_low full c used false low here shared e u l = rw (le-ltb c full (omega (arith, e)), u, l, eq-eqb c full (omega (arith, e))) refl

pub filled_span : (q : Quantised) → IsQuantised q → (frmsizecod crc1 b c : ℕ) → c < channels q.shape → span_in (sent_head q.shape frmsizecod crc1) (filled_block q frmsizecod crc1 b) c ≡ channel_span q.shape c
filled_span q is code crc1 b c lt =
    let f = filled_block q code crc1 b in
    let s = strategy_of f in
    let full = full_of q.shape.acmod in
    elim (channel_cases q.shape c lt) [
      | inl here ↦
          let P : Option ℕ → Bool → Option (ℕ × ℕ) → Span = λ w t r. full_span (number w) (if t then r else None) in
          picked_full full c (holds f.cplinu) q.shape.lfe (P (entry f.chbwcod c) (is_coupled s c) (range_of s)) (next_span (range_of s)) here
          ∙ (ap (λ w. P w (is_coupled s c) (range_of s)) (filled_width q is code crc1 b c here)
          ∙ (ap (λ t. P (when (not (is_some q.shape.couple)) q.shape.bw) t (range_of s)) (filled_coupled q code crc1 b c here)
          ∙ (ap (λ r. P (when (not (is_some q.shape.couple)) q.shape.bw) (is_some q.shape.couple) r) (filled_range q code crc1 b)
          ∙ (full_by q.shape.couple q.shape.bw ∙ sym (span_full q.shape c here)))))
      | inr (inl e) ↦
          picked_shared full c (holds f.cplinu) q.shape.lfe (full_span (number (entry f.chbwcod c)) (if is_coupled s c then range_of s else None)) (next_span (range_of s)) e.1 (filled_inu q code crc1 b ∙ e.0)
          ∙ (ap next_span (filled_range q code crc1 b) ∙ sym (ap (channel_span q.shape) e.1 ∙ span_next q.shape))
      | inr (inr e) ↦
          picked_low full c (holds f.cplinu) (is_some q.shape.couple) q.shape.lfe (full_span (number (entry f.chbwcod c)) (if is_coupled s c then range_of s else None)) (next_span (range_of s)) e.1 (filled_inu q code crc1 b) e.0
          ∙ sym (ap (channel_span q.shape) e.1 ∙ span_low q.shape)
    ]
