-- Each block that is sent is lawful behind those before it.
use Rattle.std.proofs.Common.{◌≡◌, ℕ, zero, suc, ◌+◌, ◌<◌, ◌≤◌, ◌&&◌, Bool, true, false, replicate, Option, None, nat_lt, refl, ap, sym, subst, ◌∙◌, arith}
use Rattle.std.specs.Prelude.{is_some}
use Rattle.std.specs.Option.{ForSome}
use Rattle.std.proofs.lemmas.Bool.{ltb-true, ne_eqb}
use Rattle.std.proofs.lemmas.List.{length-replicate}
use Rattle.ac_base.specs.declared.shapes.Shape.{Shape}
use Rattle.ac_base.specs.declared.spans.Span.{Span}
use Rattle.ac_base.specs.declared.spans.Lead.{Lead}
use Rattle.ac_base.specs.declared.spans.Lead.TheVariants as lead
use Rattle.ac_base.specs.Shape.{full_of, is_stereo, subbands, count_of, full_span, next_span, low_span, IsCoupling}
use Rattle.ac_base.specs.Spans.{greatest_kind}
use Rattle.ac_expo.specs.Groups.{spelled_of}
use Rattle.ac_expo.specs.Spelling.{Spelling}
use Rattle.ac_expo.specs.Raw.{channel_span, channels}
use Rattle.ac_codec.specs.Codec.{pair, shaped, free}
use Rattle.ac_rows.specs.Blocks.{Block}
use Rattle.ac_rows.specs.declared.groups.Coupling.{Coupling}
use Rattle.ac_rows.specs.declared.groups.Known.{Known}
use Rattle.ac_rows.specs.Groups.{strategy_of, shared_of, codes_of, exponents_of, allocation_of}
use Rattle.ac_rows.specs.Known.{known_of, may_keep_coordinates, may_keep_shared, may_keep_channel}
use Rattle.ac_rows.specs.Spelled.{spelled_row}
use Rattle.ac_rows.specs.BlockRows.{shared, codes, exponents, allocation, block_rows, block_fields, whole_block, skip_bits, coupling_now}
use Rattle.ac_sent.specs.Values.{Quantised}
use Rattle.ac_sent.specs.Asked.{IsQuantised}
use Rattle.ac_sent.specs.Fields.{sent_head, sent_fields, sent_block, code_at, exponents_at, coordinate_at, low_number, rematrixed, skip_at, parts_at}
use Rattle.ac_sent.specs.Padding.{skip, to_skip}
use Rattle.ac_sent.proofs.Padding.{skip_small}
use Rattle.ac_sent.proofs.Spans.{is_span, span_full, span_next, span_low, full_coded, coupling_coded, low_coded, full_two}
use Rattle.ac_sent.proofs.FirstRows.{start_lawful, strategy_lawful, rest_lawful}
use Rattle.ac_sent.proofs.SharedRows.{shared_lawful, codes_lawful}
use Rattle.ac_sent.proofs.ExponentRows.{spelled_lawful, exponents_lawful, allocation_lawful}
use Rattle.ac_sent.proofs.Earlier.{sent_before, block_first, block_later}
use Rattle.ac_sent.proofs.Coupling.{coupling_sent}
use Rattle.ac_sent.proofs.Reuse.{the_coupling, sends_first, begun, coordinates_kept, shared_kept, channel_kept, low_kept, offset_kept, leaks_kept}

-- ---- codes and exponents
least_kind : (lead : Lead) → greatest_kind lead ≤ 3
least_kind lead.Free = omega arith
least_kind lead.Coupled = omega arith
least_kind lead.Coupling = omega arith
least_kind lead.Low = omega arith

pub code_small : (q : Quantised) → IsQuantised q → (c b : ℕ) → c < channels q.shape → b < 6 → code_at q c b ≤ 3
code_small q is c b lt in_frame = omega (arith, is.assigned.kinds c b lt in_frame, least_kind (channel_span q.shape c).lead)

pub low_code : (q : Quantised) → IsQuantised q → (b : ℕ) → b < 6 → q.shape.lfe ≡ true → code_at q (low_number q.shape) b ≤ 1
low_code q is b in_frame low =
    let k = is.assigned.kinds (low_number q.shape) b (low_coded q.shape low) in_frame in
    let e : greatest_kind (channel_span q.shape (low_number q.shape)).lead ≡ 1 = ap (λ (s : Span). greatest_kind s.lead) (span_low q.shape) in
    omega (arith, k, e)

-- the exponents of a block as they are spelled
abbrev pub spelling_of_channel : Quantised → ℕ → ℕ → Spelling
spelling_of_channel q b c = spelled_of (code_at q c b) (channel_span q.shape c) (exponents_at q c b)

pub row_lawful : (q : Quantised) → IsQuantised q → (c b channel : ℕ) (span : Span) → c < channels q.shape → b < 6 → channel_span q.shape c ≡ span → 0 < code_at q c b
    → (spelled_row (code_at q c b) span channel).Lawful (spelling_of_channel q b c)
row_lawful q is c b channel span lt in_frame e some =
    subst (λ (s : Span). (spelled_row (code_at q c b) s channel).Lawful (spelling_of_channel q b c)) e
    (spelled_lawful (code_at q c b) (channel_span q.shape c) channel (exponents_at q c b) (is_span q.shape c) (some, is.assigned.kinds c b lt in_frame) (is.spellable c b lt in_frame some))

-- ---- what a block may reuse, in the words of its rows
pub record MayReuse (q : Quantised) (first : Bool) (b : ℕ) (known : Known) : Type 0 where
  pub begun : first ≡ false → known.begun ≡ true
  pub coordinates : (i : ℕ) → i < 5 → first ≡ false → (is_some q.shape.couple && nat_lt i (full_of q.shape.acmod)) ≡ true → may_keep_coordinates known (the_coupling q) i ≡ true
  pub shared : is_some q.shape.couple ≡ true → code_at q (full_of q.shape.acmod) b ≡ 0 → may_keep_shared known (the_coupling q) ≡ true
  pub channel : (i : ℕ) → i < 5 → nat_lt i (full_of q.shape.acmod) ≡ true → code_at q i b ≡ 0 → may_keep_channel known (the_coupling q) i ≡ true
  pub low : q.shape.lfe ≡ true → code_at q (low_number q.shape) b ≡ 0 → known.low ≡ true
  pub offset : first ≡ false → is_some q.shape.couple ≡ true → known.offset ≡ true
  pub leaks : first ≡ false → is_some q.shape.couple ≡ true → known.leaks ≡ true

is_true : true ≡ false → ⊥
is_true e = absurd cc

pub first_reuse : (q : Quantised) → IsQuantised q → (known : Known) → MayReuse q true 0 known
first_reuse q is known = record {
  begun = λ e. absurd (is_true e);
  coordinates = λ i lt e there. absurd (is_true e);
  shared = λ used none. absurd (omega (arith, none, sends_first q is (full_of q.shape.acmod) (coupling_coded q.shape used)));
  channel = λ i lt here none. absurd (omega (arith, none, sends_first q is i (full_coded q.shape i here)));
  low = λ low none. absurd (omega (arith, none, sends_first q is (low_number q.shape) (low_coded q.shape low)));
  offset = λ e used. absurd (is_true e);
  leaks = λ e used. absurd (is_true e);
}

pub later_reuse : (q : Quantised) → IsQuantised q → (n : ℕ) → MayReuse q false (suc n) (known_of (sent_before q (suc n)))
later_reuse q is n = record {
  begun = λ e. begun q n;
  coordinates = λ i lt e there. coordinates_kept q n i lt there;
  shared = λ used none. shared_kept q is n used;
  channel = λ i lt here none. channel_kept q is n i here;
  low = λ low none. low_kept q is n low;
  offset = λ e used. offset_kept q n used;
  leaks = λ e used. leaks_kept q n used;
}

-- ---- the groups
bounds_by : (shape : Shape) (couple : Option (ℕ × ℕ)) → IsCoupling shape.acmod couple → ForSome couple (λ p. (2 ≤ full_of shape.acmod) × (p.0 ≤ 15) × (p.1 ≤ 15) × (p.0 ≤ p.1 + 2))
bounds_by shape couple is p e = let h = is p e in (full_two shape h.0, h.1, h.2, h.3)

pub rows_lawful : (q : Quantised) → IsQuantised q → (first : Bool) (b : ℕ) (skipl : Option ℕ) (known : Known) → b < 6 → MayReuse q first b known → ForSome skipl (λ n. n ≤ 511)
    → coupling_now known (strategy_of (sent_fields q first b skipl)) ≡ the_coupling q
    → (block_rows (full_of q.shape.acmod) (is_stereo q.shape.acmod) q.shape.lfe known).Lawful (sent_fields q first b skipl)
unfolding block_rows shaped pair sent_fields
rows_lawful q is first b skipl known in_frame may small same =
    let full = full_of q.shape.acmod in
    let stereo = is_stereo q.shape.acmod in
    let couple = q.shape.couple in
    let code = λ (c : ℕ). code_at q c b in
    let spelling = spelling_of_channel q b in
    let last = low_number q.shape in
    let x = sent_fields q first b skipl in
    let s = shared_lawful known full couple first (λ i k. (coordinate_at q i k).exp) (λ i k. (coordinate_at q i k).mant) may.coordinates
    (λ i k here band. is.coordinates i k (ltb-true i full here) (ltb-true k (subbands couple) band)) in
    let c = codes_lawful full stereo q.shape.lfe known q.shape.bw couple (rematrixed q) code last first q.shape.bandwidth may.begun
    (λ used. code_small q is full b (coupling_coded q.shape used) in_frame) may.shared
    (λ i here. code_small q is i b (full_coded q.shape i here) in_frame) may.channel may.low in
    let e = exponents_lawful full stereo q.shape.lfe q.shape.bw couple (rematrixed q) code spelling last first
    (λ i here some. row_lawful q is i b i (full_span q.shape.bw couple) (full_coded q.shape i here) in_frame (span_full q.shape i here) some)
    (λ used some. row_lawful q is full b full (next_span couple) (coupling_coded q.shape used) in_frame (span_next q.shape) some)
    (λ low. low_code q is b in_frame low)
    (λ low some. row_lawful q is last b (full + count_of (is_some couple)) low_span (low_coded q.shape low) in_frame (span_low q.shape) some) in
    let a = allocation_lawful full q.shape.lfe known couple q.t first is.offset may.begun may.offset may.leaks in (
      start_lawful full,
      (
        strategy_lawful full stereo known.begun couple first (bounds_by q.shape couple q.shape.coupling) may.begun,
        (
          subst (λ (k : Coupling). (shared known k).Lawful (shared_of x)) (sym same) s,
          (
            subst (λ (k : Coupling). (codes full stereo q.shape.lfe known k).Lawful (codes_of x)) (sym same) c,
            (
              subst (λ (k : Coupling). (exponents full k (codes_of x)).Lawful (exponents_of x)) (sym same) e,
              (subst (λ (k : Coupling). (allocation full q.shape.lfe known k).Lawful (allocation_of x)) (sym same) a, rest_lawful skipl small),
            ),
          ),
        ),
      ),
    )

-- ---- a block
pub later_skip : (q : Quantised) (n : ℕ) → skip_at q (suc n) ≡ skip (to_skip q.shape.words (parts_at q).total (parts_at q).last) (suc n)
later_skip q n = rw (ne_eqb (suc n) 0 (omega arith)) refl

pub skip_at_small : (q : Quantised) (n : ℕ) → ForSome (skip_at q (suc n)) (λ k. k ≤ 511)
skip_at_small q n k e = skip_small _ (suc n) k (sym (later_skip q n) ∙ e)

pub now_is : (q : Quantised) (b : ℕ) → coupling_now (known_of (sent_before q b)) (strategy_of (sent_block q b)) ≡ the_coupling q
unfolding known_of
now_is q b = coupling_sent q b

pub block_is : (q : Quantised) (frmsizecod crc1 : ℕ) → IsQuantised q → (b : ℕ) → b < 6 → (block_fields (sent_head q.shape frmsizecod crc1) (sent_before q b)).Lawful (sent_block q b)
unfolding block_fields
block_is q frmsizecod crc1 is zero in_frame =
    let known = known_of (sent_before q 0) in
    let rows = block_rows (full_of q.shape.acmod) (is_stereo q.shape.acmod) q.shape.lfe known in
    let same = ap (λ (d : Block). coupling_now known (strategy_of d)) (sym (block_first q)) ∙ now_is q 0 in
    subst rows.Lawful (sym (block_first q)) (rows_lawful q is true 0 None known (omega arith) (first_reuse q is known) (λ n e. absurd cc) same)
block_is q frmsizecod crc1 is (suc n) in_frame =
    let known = known_of (sent_before q (suc n)) in
    let rows = block_rows (full_of q.shape.acmod) (is_stereo q.shape.acmod) q.shape.lfe known in
    let same = ap (λ (d : Block). coupling_now known (strategy_of d)) (sym (block_later q n)) ∙ now_is q (suc n) in
    subst rows.Lawful (sym (block_later q n)) (rows_lawful q is false (suc n) (skip_at q (suc n)) known in_frame (later_reuse q is n) (skip_at_small q n) same)

pub whole_block_is : (q : Quantised) (frmsizecod crc1 : ℕ) → IsQuantised q → (b : ℕ) → b < 6 → (whole_block (sent_head q.shape frmsizecod crc1) (sent_before q b)).Lawful (sent_block q b, replicate (skip_bits (sent_block q b)) false)
unfolding whole_block pair free
whole_block_is q frmsizecod crc1 is b in_frame = (block_is q frmsizecod crc1 is b in_frame, length-replicate (skip_bits (sent_block q b)) false)
