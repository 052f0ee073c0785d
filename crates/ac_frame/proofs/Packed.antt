-- The frame that is packed for mono values at offset 0, with D45 in block 0 and reuse behind it, is the plain frame.
use Rattle.std.proofs.Common.{◌≡◌, ◌≢◌, ◌⊎◌, ℕ, zero, suc, ◌+◌, ◌-◌, ◌*◌, ◌^◌, ◌<◌, ◌≤◌, Bool, true, false, List, [], ◌∷◌, ◌++◌, append_assoc, length, replicate, slice_index, Option, None, refl, ap, ap₂, sym, subst, ◌∙◌, inl, inr, arith}
use Rattle.std.proofs.lemmas.List.{append-nil}
use Rattle.ac_base.specs.declared.spans.Span.{Span}
use Rattle.ac_base.specs.Counts.{none, with_one, joined, exact_of}
use Rattle.ac_base.specs.Fit.{tally_bins, tally_channels, mantissas_in, exponents_in, block_cost}
use Rattle.ac_base.specs.Shape.{full_of, span_of, coded_of, free_span}
use Rattle.ac_base.specs.SideBits.{side_total}
use Rattle.ac_base.specs.Sigma.{sum_below}
use Rattle.ac_base.specs.Spans.{groups_of}
use Rattle.ac_bits.specs.Bits.{bits, bit, bits_of}
use Rattle.ac_bits.proofs.Laws.{length-bits_of}
use Rattle.ac_crc.specs.Remainder.{IsRemainder}
use Rattle.ac_codec.specs.Codec.{pair, shaped, field}
use Rattle.ac_expo.specs.Raw.{channel_span}
use Rattle.ac_expo.proofs.Spellings.{groups_long}
use Rattle.ac_mant.specs.Groups.{closed, zeros, spelled}
use Rattle.ac_rows.specs.Blocks.{Block}
use Rattle.ac_rows.specs.declared.head.Head.{Head}
use Rattle.ac_rows.specs.Bits.{block_bits}
use Rattle.ac_rows.specs.BlockRows.{whole_block, skip_bits}
use Rattle.ac_rows.specs.Filled.{listed}
use Rattle.ac_rows.specs.HeadRows.{layout, layout_rows, head_fields, whole_head}
use Rattle.ac_rows.proofs.BlockBits.{whole_bits}
use Rattle.ac_record.specs.CrcParts.{front_part, all_part}
use Rattle.ac_record.specs.Records.{block_spelled, blocks_spelled, record_spelled}
use Rattle.ac_sent.specs.Values.{Quantised}
use Rattle.ac_sent.specs.Asked.{IsQuantised, IsSizeCode}
use Rattle.ac_sent.specs.Fields.{sent_head, sent_fields, sent_block, code_at, exponents_at, pointer_at, parts_at}
use Rattle.ac_sent.specs.Packed.{sent_mantissas, sent_part, sent_record, IsPacked}
use Rattle.ac_sent.specs.Padding.{skip, to_skip, aux_bits}
use Rattle.ac_sent.proofs.Blocks.{block_is, later_skip}
use Rattle.ac_sent.proofs.Earlier.{sent_before, before_none, before_more, block_first, block_later}
use Rattle.ac_sent.proofs.SentRecord.{is_record}
use Rattle.ac_sent.proofs.Tallies.{mantissas_cost}
use Rattle.ac_frame.specs.Rows.{Row, spell}
use Rattle.ac_frame.specs.Plain.{head_rows, first_block_rows, later_block_rows, later_rows, tail_rows, total_bits, body_rows, plain_rows, IsSized, IsPlain}
use Rattle.ac_frame.specs.Mono.{IsSilentMono, spelling}
use Rattle.ac_frame.proofs.Spelling.{spell-append}
use Rattle.ac_frame.proofs.Frames.{Made, all_rows}
use Rattle.ac_frame.proofs.Unique.{frame_size}
use Rattle.ac_frame.proofs.Blocks.{first_fields, later_fields, mono_head, first_spelled, later_spelled, head_spelled, tail_spelled}

-- ---- the codes of the word 3 0 0 0 0 0
first_code : (q : Quantised) → IsSilentMono q → code_at q 0 0 ≡ 3
first_code q m = ap (λ l. slice_index l 0) m.word

zeros_behind : (n : ℕ) → slice_index (0 ∷ 0 ∷ 0 ∷ 0 ∷ 0 ∷ []) n ≡ 0
zeros_behind zero = refl
zeros_behind (suc zero) = refl
zeros_behind (suc (suc zero)) = refl
zeros_behind (suc (suc (suc zero))) = refl
zeros_behind (suc (suc (suc (suc zero)))) = refl
zeros_behind (suc (suc (suc (suc (suc n))))) = refl

later_code : (q : Quantised) → IsSilentMono q → (n : ℕ) → code_at q 0 (suc n) ≡ 0
later_code q m n = ap (λ l. slice_index l (suc n)) m.word ∙ zeros_behind n

-- ---- no pointer is above 0
none_pointed : (q : Quantised) → q.t ≡ 0 → (c b k : ℕ) → pointer_at q c b k ≡ 0
none_pointed q e c b k = rw e refl

bins_silent : (bap : ℕ → ℕ) (from n : ℕ) → ((k : ℕ) → bap k ≡ 0) → tally_bins bap from n ≡ none
unfolding tally_bins
bins_silent bap from zero silent = refl
bins_silent bap from (suc n) silent = ap₂ with_one (bins_silent bap from n silent) (silent (from + n))

channels_silent : (span : ℕ → Span) (n : ℕ) (bap : ℕ → ℕ → ℕ) → ((c k : ℕ) → bap c k ≡ 0) → tally_channels span n bap ≡ none
unfolding tally_channels
channels_silent span zero bap silent = refl
channels_silent span (suc n) bap silent = ap₂ joined (channels_silent span n bap silent) (bins_silent (bap n) (span n).start ((span n).end - (span n).start) (silent n))

silent_in : (q : Quantised) → q.t ≡ 0 → (span : ℕ → Span) (n b : ℕ) → mantissas_in span n (pointer_at q) b ≡ 0
silent_in q e span n b = ap exact_of (channels_silent span n (λ c k. pointer_at q c b k) (λ c k. none_pointed q e c b k))

none_long : (l : List Bool) → length l ≡ 0 → l ≡ []
none_long [] e = refl
none_long (x ∷ l) e = absurd (omega (arith, e))

none_spelled : (q : Quantised) → q.t ≡ 0 → (b : ℕ) → spelled zeros closed (sent_mantissas q b) ≡ []
none_spelled q e b =
    none_long (spelled zeros closed (sent_mantissas q b))
    (mantissas_cost q b ∙ silent_in q e (span_of q.shape.acmod q.shape.bw q.shape.couple) (coded_of q.shape.acmod q.shape.lfe q.shape.couple) b)

-- ---- the fields
sent_first : (q : Quantised) → IsSilentMono q → sent_fields q true 0 None ≡ first_fields q.shape.bw (spelling q)
unfolding sent_fields listed
sent_first q m = rw (m.mono, m.no_lfe, m.uncoupled, m.offset, first_code q m) refl

sent_later : (q : Quantised) (n : ℕ) (skipl : Option ℕ) → IsSilentMono q → sent_fields q false (suc n) skipl ≡ later_fields skipl
unfolding sent_fields listed
sent_later q n skipl m = rw (m.mono, m.no_lfe, m.uncoupled, later_code q m n) refl

head_sent : (q : Quantised) (frmsizecod crc1 : ℕ) → IsSilentMono q → sent_head q.shape frmsizecod crc1 ≡ mono_head q.shape.fscod frmsizecod crc1
head_sent q code crc1 m = rw (m.mono, m.no_lfe) refl

-- ---- the parts
span_is : (q : Quantised) → IsSilentMono q → channel_span q.shape 0 ≡ free_span q.shape.bw
span_is q m = rw (m.mono, m.uncoupled) refl

groups_are : (q : Quantised) → IsSilentMono q → length (spelling q).groups ≡ groups_of 3 (free_span q.shape.bw)
groups_are q m = groups_long 3 (channel_span q.shape 0) (exponents_at q 0 0) (groups_of 3 (channel_span q.shape 0)) ∙ ap (groups_of 3) (span_is q m)

exponents_first : (q : Quantised) → IsSilentMono q → exponents_in (span_of q.shape.acmod q.shape.bw q.shape.couple) (coded_of q.shape.acmod q.shape.lfe q.shape.couple) q.assign.w 0 ≡ 12 + 7 * groups_of 3 (free_span q.shape.bw)
unfolding sum_below
exponents_first q m = rw (m.mono, m.no_lfe, m.uncoupled, m.word) (omega arith)

exponents_later : (q : Quantised) (n : ℕ) → IsSilentMono q → exponents_in (span_of q.shape.acmod q.shape.bw q.shape.couple) (coded_of q.shape.acmod q.shape.lfe q.shape.couple) q.assign.w (suc n) ≡ 0
unfolding sum_below
exponents_later q n m = rw (m.mono, m.no_lfe, m.uncoupled, later_code q m n) refl

side_is : (q : Quantised) → IsSilentMono q → side_total q.shape.acmod q.shape.lfe q.shape.couple ≡ 168
unfolding side_total
side_is q m = rw (m.mono, m.no_lfe, m.uncoupled) refl

abbrev cost_at : Quantised → ℕ → ℕ
cost_at q b = block_cost q.shape.acmod q.shape.lfe q.shape.bw q.shape.couple q.assign.w (pointer_at q) b

total_sum : (q : Quantised) → (parts_at q).total ≡ side_total q.shape.acmod q.shape.lfe q.shape.couple + cost_at q 0 + cost_at q 1 + cost_at q 2 + cost_at q 3 + cost_at q 4 + cost_at q 5
unfolding sum_below
total_sum q = omega arith

silent_at : (q : Quantised) → IsSilentMono q → (b : ℕ) → mantissas_in (span_of q.shape.acmod q.shape.bw q.shape.couple) (coded_of q.shape.acmod q.shape.lfe q.shape.couple) (pointer_at q) b ≡ 0
silent_at q m b = silent_in q m.offset (span_of q.shape.acmod q.shape.bw q.shape.couple) (coded_of q.shape.acmod q.shape.lfe q.shape.couple) b

later_cost : (q : Quantised) → IsSilentMono q → (n : ℕ) → cost_at q (suc n) ≡ 0
later_cost q m n = omega (arith, exponents_later q n m, silent_at q m (suc n))

total_is : (q : Quantised) → IsSilentMono q → (parts_at q).total ≡ total_bits (length (spelling q).groups)
total_is q m =
    omega (arith, total_sum q, side_is q m, exponents_first q m, silent_at q m 0, groups_are q m, later_cost q m 0, later_cost q m 1, later_cost q m 2, later_cost q m 3, later_cost q m 4)

last_is : (q : Quantised) → IsSilentMono q → (parts_at q).last ≡ 0
last_is q m = silent_at q m 5

-- what the skip fields are to take, and the aux bits
skip_is : (q : Quantised) → IsSilentMono q → to_skip q.shape.words (parts_at q).total (parts_at q).last ≡ to_skip q.shape.words (total_bits (length (spelling q).groups)) 0
skip_is q m = ap₂ (to_skip q.shape.words) (total_is q m) (last_is q m)

aux_is : (q : Quantised) → IsSilentMono q → aux_bits q.shape.words (parts_at q).total (parts_at q).last ≡ aux_bits q.shape.words (total_bits (length (spelling q).groups)) 0
aux_is q m = ap₂ (aux_bits q.shape.words) (total_is q m) (last_is q m)

-- ---- a block
part_spelled : (q : Quantised) → IsQuantised q → IsSilentMono q → (frmsizecod crc1 b : ℕ) (d : Block) → b < 6 → sent_block q b ≡ d
    → block_spelled (sent_head q.shape frmsizecod crc1) (sent_before q b) (sent_part q b) ≡ block_bits 1 d ++ replicate (skip_bits d) false
part_spelled q is m code crc1 b d lt e =
    let h = sent_head q.shape code crc1 in
    let all : ℕ → Block → List Bool = λ n x. block_bits n x ++ replicate (skip_bits x) false in
    let fields = (whole_block h (sent_before q b)).spell (sent_block q b, replicate (skip_bits (sent_block q b)) false) in
    ap (λ l. fields ++ l) (none_spelled q m.offset b)
    ∙ (append-nil fields
    ∙ (whole_bits h (sent_before q b) (sent_block q b) (block_is q code crc1 is b lt)
    ∙ ap₂ all (ap full_of m.mono) e))

first_part : (q : Quantised) → IsQuantised q → IsSilentMono q → (frmsizecod crc1 : ℕ)
    → block_spelled (sent_head q.shape frmsizecod crc1) (sent_before q 0) (sent_part q 0) ≡ spell (first_block_rows q.shape.bw (spelling q).first (spelling q).groups)
first_part q is m code crc1 =
    let d = first_fields q.shape.bw (spelling q) in
    part_spelled q is m code crc1 0 d (omega arith) (block_first q ∙ sent_first q m) ∙ (append-nil (block_bits 1 d) ∙ first_spelled q.shape.bw (spelling q))

later_part : (q : Quantised) → IsQuantised q → IsSilentMono q → (frmsizecod crc1 n : ℕ) → suc n < 6
    → block_spelled (sent_head q.shape frmsizecod crc1) (sent_before q (suc n)) (sent_part q (suc n)) ≡ spell (later_block_rows (skip (to_skip q.shape.words (total_bits (length (spelling q).groups)) 0) (suc n)))
later_part q is m code crc1 n lt =
    let x = to_skip q.shape.words (total_bits (length (spelling q).groups)) 0 in
    let o = skip x (suc n) in
    let here : sent_block q (suc n) ≡ later_fields o = block_later q n ∙ (ap (sent_fields q false (suc n)) (later_skip q n ∙ ap (λ k. skip k (suc n)) (skip_is q m)) ∙ sent_later q n o m) in
    part_spelled q is m code crc1 (suc n) (later_fields o) lt here ∙ later_spelled o

-- ---- all blocks
one_more : (q : Quantised) (h : Head) (n i : ℕ) → blocks_spelled h (sent_before q i) (listed (suc n) i (sent_part q)) ≡ block_spelled h (sent_before q i) (sent_part q i) ++ blocks_spelled h (sent_before q (suc i)) (listed n (suc i) (sent_part q))
unfolding blocks_spelled listed
one_more q h n i = ap (λ (l : List Block). block_spelled h (sent_before q i) (sent_part q i) ++ blocks_spelled h l (listed n (suc i) (sent_part q))) (sym (before_more q i))

no_more : (q : Quantised) (h : Head) (i : ℕ) → blocks_spelled h (sent_before q i) (listed 0 i (sent_part q)) ≡ []
unfolding blocks_spelled listed
no_more q h i = refl

then_more : (q : Quantised) (h : Head) (n i : ℕ) (x y : List Bool) → block_spelled h (sent_before q i) (sent_part q i) ≡ x → blocks_spelled h (sent_before q (suc i)) (listed n (suc i) (sent_part q)) ≡ y
    → blocks_spelled h (sent_before q i) (listed (suc n) i (sent_part q)) ≡ x ++ y
then_more q h n i x y here more = one_more q h n i ∙ ap₂ (λ a b. a ++ b) here more

blocks_are : (q : Quantised) → IsQuantised q → IsSilentMono q → (frmsizecod crc1 : ℕ) → let x = to_skip q.shape.words (total_bits (length (spelling q).groups)) 0 in
    blocks_spelled (sent_head q.shape frmsizecod crc1) [] (listed 6 0 (sent_part q))
    ≡ spell (first_block_rows q.shape.bw (spelling q).first (spelling q).groups) ++ (spell (later_block_rows (skip x 1)) ++ (spell (later_block_rows (skip x 2)) ++ (spell (later_block_rows (skip x 3))
    ++ (spell (later_block_rows (skip x 4)) ++ (spell (later_block_rows (skip x 5)) ++ [])))))
blocks_are q is m code crc1 =
    let h = sent_head q.shape code crc1 in
    let later = later_part q is m code crc1 in
    let f5 = then_more q h 0 5 _ [] (later 4 (omega arith)) (no_more q h 6) in
    let f4 = then_more q h 1 4 _ _ (later 3 (omega arith)) f5 in
    let f3 = then_more q h 2 3 _ _ (later 2 (omega arith)) f4 in
    let f2 = then_more q h 3 2 _ _ (later 1 (omega arith)) f3 in
    let f1 = then_more q h 4 1 _ _ (later 0 (omega arith)) f2 in
    ap (λ (l : List Block). blocks_spelled h l (listed 6 0 (sent_part q))) (sym (before_none q)) ∙ then_more q h 5 0 _ _ (first_part q is m code crc1) f1

-- ---- the frame
later_rows_are : (x : ℕ) → spell (later_rows x) ≡ spell (later_block_rows (skip x 1)) ++ (spell (later_block_rows (skip x 2)) ++ (spell (later_block_rows (skip x 3)) ++ (spell (later_block_rows (skip x 4)) ++ spell (later_block_rows (skip x 5)))))
unfolding later_rows
later_rows_are x =
    let r : ℕ → List Row = λ b. later_block_rows (skip x b) in
    spell-append (r 1) (r 2 ++ (r 3 ++ (r 4 ++ r 5)))
    ∙ ap (λ l. spell (r 1) ++ l) (spell-append (r 2) (r 3 ++ (r 4 ++ r 5)) ∙ ap (λ l. spell (r 2) ++ l) (spell-append (r 3) (r 4 ++ r 5) ∙ ap (λ l. spell (r 3) ++ l) (spell-append (r 4) (r 5))))

body_are : (fscod frmsizecod words bw first : ℕ) (groups : List ℕ) (crcrsv : ℕ) → spell (body_rows fscod frmsizecod words bw first groups crcrsv)
    ≡ spell (head_rows fscod frmsizecod) ++ (spell (first_block_rows bw first groups) ++ (spell (later_rows (to_skip words (total_bits (length groups)) 0)) ++ spell (tail_rows (aux_bits words (total_bits (length groups)) 0) crcrsv)))
unfolding body_rows
body_are fscod code words bw first groups r =
    let a = head_rows fscod code in
    let b = first_block_rows bw first groups in
    let c = later_rows (to_skip words (total_bits (length groups)) 0) in
    let d = tail_rows (aux_bits words (total_bits (length groups)) 0) r in
    spell-append a (b ++ (c ++ d)) ∙ ap (λ l. spell a ++ l) (spell-append b (c ++ d) ∙ ap (λ l. spell b ++ l) (spell-append c d))

regroup : (s c h b b1 b2 b3 b4 b5 t e : List Bool) → (s ++ (c ++ h)) ++ ((b ++ (b1 ++ (b2 ++ (b3 ++ (b4 ++ (b5 ++ [])))))) ++ (t ++ e)) ≡ s ++ (c ++ ((h ++ (b ++ ((b1 ++ (b2 ++ (b3 ++ (b4 ++ b5)))) ++ t))) ++ e))
regroup s c h b b1 b2 b3 b4 b5 t e = simp (append_assoc, append-nil) refl

abbrev made : Quantised → ℕ → Made
made q code = record { fscod = q.shape.fscod; frmsizecod = code; words = q.shape.words; bw = q.shape.bw; first = (spelling q).first; groups = (spelling q).groups }

rows_sent : (q : Quantised) → IsQuantised q → IsSilentMono q → (frmsizecod crc1 : ℕ) (crcrsv : Bool) (crc2 : ℕ) → record_spelled (sent_record q frmsizecod crc1 crcrsv crc2)
    ≡ spell (plain_rows q.shape.fscod frmsizecod q.shape.words q.shape.bw (spelling q).first (spelling q).groups crc1 (bit crcrsv) crc2)
unfolding record_spelled sent_record
rows_sent q is m code crc1 r crc2 =
    let s = spelling q in
    let x = to_skip q.shape.words (total_bits (length s.groups)) 0 in
    let aux = aux_bits q.shape.words (total_bits (length s.groups)) 0 in
    let row_of : ℕ → List Bool = λ b. spell (later_block_rows (skip x b)) in
    let first = spell (first_block_rows q.shape.bw s.first s.groups) in
    let head = spell (head_rows q.shape.fscod code) in
    let h = ap (λ (g : Head). whole_head.spell (g, [])) (head_sent q code crc1 m) ∙ head_spelled q.shape.fscod code crc1 in
    let t = ap (λ n. replicate n false ++ (false ∷ r ∷ bits crc2 16)) (aux_is q m) ∙ tail_spelled aux r (bits crc2 16) in
    let b = body_are q.shape.fscod code q.shape.words q.shape.bw s.first s.groups (bit r) ∙ ap (λ l. head ++ (first ++ (l ++ spell (tail_rows aux (bit r))))) (later_rows_are x) in
    ap₂ (λ a y. a ++ y) h (ap₂ (λ a y. a ++ y) (blocks_are q is m code crc1) t)
    ∙ (regroup (bits 0x0B77 16) (bits crc1 16) head first (row_of 1) (row_of 2) (row_of 3) (row_of 4) (row_of 5) (spell (tail_rows aux (bit r))) (bits crc2 16)
    ∙ (ap (λ l. bits 0x0B77 16 ++ (bits crc1 16 ++ (l ++ bits crc2 16))) (sym b) ∙ sym (all_rows (made q code) crc1 (bit r) crc2)))

-- ---- the words and the groups are within their bounds
few_groups : (chbwcod : ℕ) → chbwcod ≤ 60 → groups_of 3 (free_span chbwcod) ≤ 21
unfolding groups_of
few_groups chbwcod most = omega (arith, most)

pub is_sized : (q : Quantised) → IsSilentMono q → IsSized q.shape.words (spelling q).groups
is_sized q m = record {
  least = q.shape.least_size;
  most = q.shape.most_size;
  few = omega (arith, groups_are q m, few_groups q.shape.bw q.shape.bandwidth);
}

-- ---- one way
word_fits : (h : Head) → whole_head.Lawful (h, []) → h.crc1 < 2 ^ 16
unfolding whole_head head_fields layout layout_rows pair shaped field
word_fits h l = l.0.0.1.0.0

-- the frame whose crc2 is the syncword, in both words
sync_same : (q : Quantised) → IsQuantised q → IsSilentMono q → (frmsizecod crc1 : ℕ)
    → all_part (record_spelled (sent_record q frmsizecod crc1 false 0x0B77)) ≡ all_part (spell (plain_rows q.shape.fscod frmsizecod q.shape.words q.shape.bw (spelling q).first (spelling q).groups crc1 0 0x0B77))
sync_same q is m code crc1 = ap all_part (rows_sent q is m code crc1 false 0x0B77)

abbrev Zero : List Bool → Type 0
Zero l = IsRemainder l 0

pub plain_of : (q : Quantised) (frame : List ℕ) → IsQuantised q → IsSilentMono q → (p : IsPacked q frame) → IsPlain q.shape.fscod p.frmsizecod q.shape.words q.shape.bw (spelling q).first (spelling q).groups frame
unfolding sent_record
plain_of q frame is m p = record {
  crc1 = p.crc1;
  crcrsv = bit p.crcrsv;
  crc2 = p.crc2;
  fit = (word_fits (sent_head q.shape p.frmsizecod p.crc1) p.stands.is_record.head, p.stands.is_record.word);
  whole = p.stands.whole ∙ rows_sent q is m p.frmsizecod p.crc1 p.crcrsv p.crc2;
  front = subst (λ (n : ℕ). Zero (front_part n (bits_of frame))) p.size.size p.stands.front;
  all = p.stands.all;
  reserved = elim p.reserved [
    | inl x ↦ inl (ap bit x.0, x.1)
    | inr x ↦ inr (ap bit x.0, subst Zero (sync_same q is m p.frmsizecod p.crc1) x.1)
  ];
}

-- ---- and back
packed_by : (q : Quantised) (frame : List ℕ) (frmsizecod crc1 : ℕ) (crcrsv : Bool) (crc2 : ℕ) → IsQuantised q → IsSilentMono q → IsSizeCode q.shape.fscod q.shape.words frmsizecod → (crc1 < 2 ^ 16) × (crc2 < 2 ^ 16)
    → bits_of frame ≡ spell (plain_rows q.shape.fscod frmsizecod q.shape.words q.shape.bw (spelling q).first (spelling q).groups crc1 (bit crcrsv) crc2) → length frame ≡ 2 * q.shape.words
    → Zero (front_part q.shape.words (bits_of frame)) → Zero (all_part (bits_of frame))
    → ((crcrsv ≡ false) × (crc2 ≢ 0x0B77)) ⊎ ((crcrsv ≡ true) × Zero (all_part (record_spelled (sent_record q frmsizecod crc1 false 0x0B77)))) → IsPacked q frame
unfolding sent_record
packed_by q frame code crc1 r crc2 is m size fit whole long front all reserved = record {
  frmsizecod = code;
  crc1 = crc1;
  crcrsv = r;
  crc2 = crc2;
  size = size;
  stands = record {
    is_record = is_record q code crc1 r crc2 is size fit.0 fit.1;
    whole = whole ∙ sym (rows_sent q is m code crc1 r crc2);
    size = omega (arith, length-bits_of frame, long, size.size);
    front = subst (λ (n : ℕ). Zero (front_part n (bits_of frame))) (sym size.size) front;
    all = all;
  };
  reserved = reserved;
}

pub packed_of : (q : Quantised) (frmsizecod : ℕ) (frame : List ℕ) → IsQuantised q → IsSilentMono q → IsSizeCode q.shape.fscod q.shape.words frmsizecod
    → IsPlain q.shape.fscod frmsizecod q.shape.words q.shape.bw (spelling q).first (spelling q).groups frame → IsPacked q frame
packed_of q code frame is m size p =
    let rows : ℕ → List Bool = λ r. spell (plain_rows q.shape.fscod code q.shape.words q.shape.bw (spelling q).first (spelling q).groups p.crc1 r p.crc2) in
    let long = frame_size (made q code) frame (is_sized q m) p in
    elim p.reserved [
      | inl x ↦ packed_by q frame code p.crc1 false p.crc2 is m size p.fit (p.whole ∙ ap rows x.0) long p.front p.all (inl (refl, x.1))
      | inr x ↦ packed_by q frame code p.crc1 true p.crc2 is m size p.fit (p.whole ∙ ap rows x.0) long p.front p.all (inr (refl, subst Zero (sym (sync_same q is m code p.crc1)) x.1))
    ]
