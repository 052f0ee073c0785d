-- The reading of the frame of values is what was handed in.
use Rattle.std.proofs.Common.{◌≡◌, ℕ, zero, suc, ◌+◌, ◌*◌, ◌<◌, ◌≤◌, ◌&&◌, Bool, true, false, List, [], ◌∷◌, ◌++◌, append_assoc, take, drop, nat_lt, nat_le, refl, ap, sym, subst, ◌∙◌, inl, inr, arith}
use Rattle.std.specs.Prelude.{is_some, if◌then◌else◌}
use Rattle.std.proofs.lemmas.Bool.{cases_eq, lt-ltb, ltb-true, le-leb}
use Rattle.std.proofs.lemmas.List.{take_all, take-append-drop}
use Rattle.ac_base.specs.declared.spans.Span.{Span}
use Rattle.ac_base.specs.Shape.{full_of, count_of}
use Rattle.ac_base.specs.Spans.{IsIn}
use Rattle.ac_base.proofs.SpanBounds.{span_end}
use Rattle.ac_bits.specs.Bits.{bits_of}
use Rattle.ac_bits.proofs.Laws.{bits_of-append, length-bits_of}
use Rattle.ac_codec.proofs.Sound.{one_value}
use Rattle.ac_expo.specs.Raw.{channel_span, channels}
use Rattle.ac_mant.specs.declared.coded.Coded.{Coded}
use Rattle.ac_mant.specs.Groups.{coded}
use Rattle.ac_rows.specs.Blocks.{Block}
use Rattle.ac_rows.specs.declared.head.Head.{Head}
use Rattle.ac_rows.specs.HeadRows.{whole_head}
use Rattle.ac_rows.specs.Filled.{listed, filled_of}
use Rattle.ac_rows.proofs.HeadSound.{whole_head_sound}
use Rattle.ac_record.specs.Channels.{is_in}
use Rattle.ac_record.specs.Frames.{FrameCodes}
use Rattle.ac_record.specs.Held.{exponent_in, pointer_in}
use Rattle.ac_record.specs.Laws.{IsSame, mantissas_of}
use Rattle.ac_record.specs.Order.{in_order, over_channels}
use Rattle.ac_record.specs.Readings.{cell, HoldsIn, IsBlockReading, AreBlockReadings, IsReadingOf}
use Rattle.ac_record.specs.Records.{BlockRecord, Record, fields_of, blocks_spelled, tail_spelled, record_spelled, words_of, StandsFor}
use Rattle.ac_record.proofs.Whole.{one_record}
use Rattle.ac_sent.specs.Values.{Quantised}
use Rattle.ac_sent.specs.Asked.{IsQuantised}
use Rattle.ac_sent.specs.Fields.{sent_head, sent_block, pointer_at}
use Rattle.ac_sent.specs.Laws.{IsBack, ReadingGivesBack}
use Rattle.ac_sent.specs.Packed.{sent_mantissas, sent_part, sent_record}
use Rattle.ac_sent.proofs.Tests.{and_both}
use Rattle.ac_sent.proofs.Spans.{is_span, full_least, full_most}
use Rattle.ac_sent.proofs.Earlier.{sent_before, before_none, before_more}
use Rattle.ac_sent.proofs.Fillings.{channel_cases, filled_block, filled_span}
use Rattle.ac_sent.proofs.HeldExponents.{exponent_held}
use Rattle.ac_sent.proofs.HeldPointers.{sent_order, order_sent, pointer_held}
use Rattle.ac_sent.proofs.Members.{heads_same, channels_back, IsOneOf, one_of_order}
use Rattle.ac_sent.proofs.Tallies.{first_coupled}

-- ---- the record of the reading is the one that was sent
front_of : (r : Record) → record_spelled r ≡ whole_head.spell (r.head, r.addbsi) ++ (blocks_spelled r.head [] r.blocks ++ (r.aux ++ tail_spelled r))
unfolding record_spelled
front_of r = refl

-- both begin the same bytes, so that their heads are one
same_head : (frame : List ℕ) (n : ℕ) (r s : Record) → StandsFor (bits_of (take n frame)) r → StandsFor (bits_of frame) s → r.head ≡ s.head
same_head frame n r s a b =
    let x = blocks_spelled r.head [] r.blocks ++ (r.aux ++ tail_spelled r) in
    let y = blocks_spelled s.head [] s.blocks ++ (s.aux ++ tail_spelled s) in
    let whole : bits_of frame ≡ bits_of (take n frame) ++ bits_of (drop n frame) = sym (ap bits_of (take-append-drop n frame)) ∙ bits_of-append (take n frame) (drop n frame) in
    let left : whole_head.spell (r.head, r.addbsi) ++ (x ++ bits_of (drop n frame)) ≡ bits_of frame =
    sym (append_assoc (whole_head.spell (r.head, r.addbsi)) x (bits_of (drop n frame))) ∙ (ap (λ l. l ++ bits_of (drop n frame)) (sym (a.whole ∙ front_of r)) ∙ sym whole) in
    let h = one_value whole_head whole_head_sound (r.head, r.addbsi) (s.head, s.addbsi) (x ++ bits_of (drop n frame)) y a.is_record.head b.is_record.head (left ∙ (b.whole ∙ front_of s)) in
    ap (λ (z : Head × List Bool). z.0) h.0

same_record : (frame : List ℕ) (r s : Record) → StandsFor (bits_of (take (2 * words_of r.head) frame)) r → StandsFor (bits_of frame) s → IsSame r s
same_record frame r s a b =
    let head = same_head frame (2 * words_of r.head) r s a b in
    let words : words_of r.head ≡ words_of s.head = ap words_of head in
    let long = length-bits_of frame in
    let all : take (2 * words_of r.head) frame ≡ frame = take_all (2 * words_of r.head) frame (omega (arith, long, b.size, words)) in
    one_record (bits_of frame) r s (subst (λ (l : List ℕ). StandsFor (bits_of l) r) all a) b

-- ---- its blocks
fields_listed : (q : Quantised) (n i : ℕ) → fields_of (listed n i (sent_part q)) ≡ listed n i (sent_block q)
unfolding listed
fields_listed q zero i = refl
fields_listed q (suc n) i = ap (λ l. sent_block q i ∷ l) (fields_listed q n (suc i))

mantissas_listed : (q : Quantised) (n i : ℕ) → mantissas_of (listed n i (sent_part q)) ≡ listed n i (sent_mantissas q)
unfolding listed
mantissas_listed q zero i = refl
mantissas_listed q (suc n) i = ap (λ l. sent_mantissas q i ∷ l) (mantissas_listed q n (suc i))

record IsSentReading (q : Quantised) (h : Head) (b : ℕ) (f : FrameCodes) : Type 0 where
  exps : HoldsIn h (filled_of h (sent_before q b) (sent_block q b)) b f.exps (exponent_in h (sent_before q b) (sent_block q b))
  baps : HoldsIn h (filled_of h (sent_before q b) (sent_block q b)) b f.baps (pointer_in h (sent_before q b) (sent_block q b))
  codes : sent_mantissas q b ≡ in_order h (filled_of h (sent_before q b) (sent_block q b)) (λ c k. coded (cell f.baps c b k) (cell f.codes c b k))

here_reading : (q : Quantised) (h : Head) (b : ℕ) (x : BlockRecord) (f : FrameCodes) → x.fields ≡ sent_block q b → x.mantissas ≡ sent_mantissas q b → IsBlockReading h (sent_before q b) b x f → IsSentReading q h b f
here_reading q h b x f e m r = record {
  exps = subst (λ (d : Block). HoldsIn h (filled_of h (sent_before q b) d) b f.exps (exponent_in h (sent_before q b) d)) e r.exps;
  baps = subst (λ (d : Block). HoldsIn h (filled_of h (sent_before q b) d) b f.baps (pointer_in h (sent_before q b) d)) e r.baps;
  codes = sym m ∙ (r.codes ∙ ap (λ (d : Block). in_order h (filled_of h (sent_before q b) d) (λ c k. coded (cell f.baps c b k) (cell f.codes c b k))) e);
}

readings_at : (q : Quantised) (h : Head) (f : FrameCodes) (n i : ℕ) (xs : List BlockRecord) → fields_of xs ≡ listed n i (sent_block q) → mantissas_of xs ≡ listed n i (sent_mantissas q) → AreBlockReadings h (sent_before q i) i xs f
    → (b : ℕ) → i ≤ b → b < i + n → IsSentReading q h b f
unfolding AreBlockReadings listed
readings_at q h f zero i xs e m r b le lt = absurd (omega arith)
readings_at q h f (suc n) i [] e m r b le lt = absurd cc
readings_at q h f (suc n) i (x ∷ xs) e m r b le lt =
    let d = heads_same x.fields (sent_block q i) (fields_of xs) (listed n (suc i) (sent_block q)) e in
    let g = heads_same x.mantissas (sent_mantissas q i) (mantissas_of xs) (listed n (suc i) (sent_mantissas q)) m in
    elim (cases_eq i b) [
      | inl same ↦ subst (λ (j : ℕ). IsSentReading q h j f) same (here_reading q h i x f d.0 g.0 r.0)
      | inr ne ↦
          let before : sent_before q i ++ x.fields ∷ [] ≡ sent_before q (suc i) = ap (λ (y : Block). sent_before q i ++ y ∷ []) d.0 ∙ sym (before_more q i) in
          readings_at q h f n (suc i) xs d.1 g.1 (subst (λ (l : List Block). AreBlockReadings h l (suc i) xs f) before r.1) b (omega (arith, le, ne)) (omega (arith, lt))
    ]

-- ---- a bin
counted : (n : ℕ) (used low : Bool) → n ≤ 5 → n + count_of used + count_of low ≤ 7
counted n true true l = omega arith
counted n true false l = omega arith
counted n false true l = omega arith
counted n false false l = omega arith

channels_most : (q : Quantised) → channels q.shape ≤ 7
channels_most q = counted (full_of q.shape.acmod) (is_some q.shape.couple) q.shape.lfe (full_most q.shape)

bin_in : (span : Span) (k : ℕ) → IsIn span k → is_in span k ≡ true
bin_in span k inside = and_both (nat_le span.start k) (nat_lt k span.end) (le-leb span.start k inside.0) (lt-ltb k span.end inside.1)

bin_held : (q : Quantised) → IsQuantised q → (frmsizecod crc1 b : ℕ) (a : List (List (List ℕ))) (g : ℕ → ℕ → ℕ) → HoldsIn (sent_head q.shape frmsizecod crc1) (filled_block q frmsizecod crc1 b) b a g
    → (c k : ℕ) → c < channels q.shape → IsIn (channel_span q.shape c) k → cell a c b k ≡ g c k
bin_held q is code crc1 b a g holds c k lt inside =
    let end = span_end (channel_span q.shape c) (is_span q.shape c) in
    holds c k (omega (arith, lt, channels_most q)) (omega (arith, inside.1, end))
    ∙ ap (λ (t : Bool). if t then g c k else 0) (ap (λ (s : Span). is_in s k) (filled_span q is code crc1 b c lt) ∙ bin_in (channel_span q.shape c) k inside)

coded_one : (q : Quantised) (c : ℕ) → c < channels q.shape → IsOneOf c (sent_order q)
coded_one q c lt =
    let full = full_of q.shape.acmod in
    one_of_order (λ i. is_some q.shape.couple && nat_lt i full) full (is_some q.shape.couple) q.shape.lfe c (first_coupled q) (full_least q.shape)
    (elim (channel_cases q.shape c lt) [
      | inl here ↦ inl (ltb-true c full here)
      | inr (inl e) ↦ inr (inl e)
      | inr (inr e) ↦ inr (inr (e.0, omega (arith, e.1)))
    ])

codes_back : (q : Quantised) → IsQuantised q → (frmsizecod crc1 b : ℕ) (f : FrameCodes)
    → sent_mantissas q b ≡ in_order (sent_head q.shape frmsizecod crc1) (filled_block q frmsizecod crc1 b) (λ c k. coded (cell f.baps c b k) (cell f.codes c b k))
    → (c k : ℕ) → c < channels q.shape → IsIn (channel_span q.shape c) k → cell f.codes c b k ≡ cell q.codes c b k
codes_back q is code crc1 b f e c k lt inside =
    let mine : ℕ → ℕ → Coded = λ d j. coded (pointer_at q d b j) (cell q.codes d b j) in
    let read : ℕ → ℕ → Coded = λ d j. coded (cell f.baps d b j) (cell f.codes d b j) in
    let all : over_channels (channel_span q.shape) (sent_order q) mine ≡ over_channels (channel_span q.shape) (sent_order q) read =
    e ∙ order_sent q is code crc1 b read read (λ d j l there. refl) in
    sym (ap (λ (x : Coded). x.code) (channels_back (channel_span q.shape) (sent_order q) mine read all c k (coded_one q c lt) inside))

-- ---- the whole reading
gives_back_by : (q : Quantised) → IsQuantised q → (frmsizecod crc1 : ℕ) (f : FrameCodes) (r : Record) → r.head ≡ sent_head q.shape frmsizecod crc1 → fields_of r.blocks ≡ listed 6 0 (sent_block q)
    → mantissas_of r.blocks ≡ listed 6 0 (sent_mantissas q) → IsReadingOf r f → IsBack q f
gives_back_by q is code crc1 f r head fields mantissas reading =
    let h = sent_head q.shape code crc1 in
    let blocks = subst (λ (l : List Block). AreBlockReadings h l 0 r.blocks f) (sym (before_none q)) (subst (λ (x : Head). AreBlockReadings x [] 0 r.blocks f) head reading.blocks) in
    let at : (b : ℕ) → b < 6 → IsSentReading q h b f = λ b lt. readings_at q h f 6 0 r.blocks fields mantissas blocks b (omega arith) (omega arith) in
    record {
      fields = reading.fields ∙ fields;
      exps = λ c b k lt in_frame inside. bin_held q is code crc1 b f.exps (exponent_in h (sent_before q b) (sent_block q b)) (at b in_frame).exps c k lt inside ∙ exponent_held q is code crc1 c b k lt in_frame inside;
      baps = λ c b k lt in_frame inside. bin_held q is code crc1 b f.baps (pointer_in h (sent_before q b) (sent_block q b)) (at b in_frame).baps c k lt inside ∙ pointer_held q is code crc1 c b k lt in_frame inside;
      codes = λ c b k lt in_frame inside. codes_back q is code crc1 b f (at b in_frame).codes c k lt inside;
    }

sent_parts : (q : Quantised) (frmsizecod crc1 : ℕ) (crcrsv : Bool) (crc2 : ℕ) (r : Record) → IsSame r (sent_record q frmsizecod crc1 crcrsv crc2)
    → (r.head ≡ sent_head q.shape frmsizecod crc1) × (fields_of r.blocks ≡ fields_of (listed 6 0 (sent_part q))) × (mantissas_of r.blocks ≡ mantissas_of (listed 6 0 (sent_part q)))
unfolding sent_record
sent_parts q code crc1 crcrsv crc2 r same = (same.head, same.fields, same.mantissas)

pub gives_back : ReadingGivesBack
gives_back q frame f is packed reading =
    let same = same_record frame reading.of (sent_record q packed.frmsizecod packed.crc1 packed.crcrsv packed.crc2) reading.stands packed.stands in
    let parts = sent_parts q packed.frmsizecod packed.crc1 packed.crcrsv packed.crc2 reading.of same in
    gives_back_by q is packed.frmsizecod packed.crc1 f reading.of parts.0 (parts.1 ∙ fields_listed q 6 0) (parts.2 ∙ mantissas_listed q 6 0) reading.reading
