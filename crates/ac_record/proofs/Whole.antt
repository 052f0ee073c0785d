-- Frames and faults are told by bytes.
use Rattle.std.proofs.Common.{◌≡◌, inl, inr, ℕ, suc, ◌+◌, ◌-◌, ◌*◌, ◌≤◌, min, Bool, List, [], ◌++◌, append_assoc, length, take, drop, Option, Some, None, ap, ap₂, sym, subst, ◌∙◌, arith}
use Rattle.std.proofs.Math.Seq.{take-append_seam}
use Rattle.std.proofs.lemmas.List.{length-append, length-take, take-append-drop}
use Rattle.ac_base.specs.Sizes.{code_words, tail_bits}
use Rattle.ac_bits.specs.Bits.{bits, bits_of}
use Rattle.ac_bits.proofs.Laws.{length-bits, bits_of-append, length-bits_of}
use Rattle.ac_crc.specs.Remainder.{IsRemainder}
use Rattle.ac_crc.proofs.Remainders.{one_remainder}
use Rattle.ac_codec.specs.declared.refused.Refused.{Refused}
use Rattle.ac_codec.proofs.Sound.{one_value}
use Rattle.ac_rows.specs.declared.head.Head.{Head}
use Rattle.ac_rows.specs.HeadRows.{whole_head}
use Rattle.ac_rows.proofs.HeadSound.{whole_head_sound}
use Rattle.ac_record.specs.declared.codes.FrameFault.{FrameFault}
use Rattle.ac_record.specs.declared.codes.FrameFault.TheVariants.{Short, BadCrc1, BadCrc2, Changed, Field}
use Rattle.ac_record.specs.Records.{Record, blocks_spelled, tail_spelled, record_spelled, AreBlocks, words_of, StandsFor}
use Rattle.ac_record.specs.CrcParts.{front_part, all_part}
use Rattle.ac_record.specs.Faults.{size_refusal, words_at, frame_at, room_at, IsThere, FrontIs, AllIs, IsShort, IsFault}
use Rattle.ac_record.specs.Laws.{AreBytes, OneRecord, FramesHaveNoFault, OneFault}
use Rattle.ac_record.proofs.Blocks.{one_blocks}
use Rattle.ac_record.proofs.Heads.{fields_apart, fields_one}
use Rattle.ac_record.proofs.Leading.{Says, says, head_begins}

-- ---- records

pub one_record : OneRecord
unfolding record_spelled
one_record frame r s p q =
    let mine = blocks_spelled r.head [] r.blocks ++ (r.aux ++ tail_spelled r) in
    let others = blocks_spelled s.head [] s.blocks ++ (s.aux ++ tail_spelled s) in
    let heads = one_value whole_head whole_head_sound (r.head, r.addbsi) (s.head, s.addbsi) mine others p.is_record.head q.is_record.head (sym p.whole ∙ q.whole) in
    let same : r.head ≡ s.head = ap (λ (z : Head × List Bool). z.0) heads.0 in
    let here : mine ≡ blocks_spelled r.head [] s.blocks ++ (s.aux ++ tail_spelled s) = heads.1 ∙ ap (λ (h : Head). blocks_spelled h [] s.blocks ++ (s.aux ++ tail_spelled s)) (sym same) in
    let are : AreBlocks r.head [] s.blocks = subst (λ (h : Head). AreBlocks h [] s.blocks) (sym same) q.is_record.blocks in
    let blocks = one_blocks r.head [] r.blocks s.blocks (r.aux ++ tail_spelled r) (s.aux ++ tail_spelled s) (p.is_record.six ∙ sym q.is_record.six) p.is_record.blocks are here in
    record { head = same; addbsi = ap (λ (z : Head × List Bool). z.1) heads.0; fields = blocks.0; mantissas = blocks.1.0 }

-- ---- what is seen of a frame in front of bytes

record Seen (bytes : List ℕ) (r : Record) : Type 0 where
  there : IsThere bytes
  words : words_at bytes ≡ words_of r.head
  frame : frame_at bytes ≡ record_spelled r

tail_long : (r : Record) → length (tail_spelled r) ≡ 18
tail_long r = ap (λ (n : ℕ). suc (suc n)) (length-bits r.crc2 16)

head_long : (h : Head) (addbsi l : List Bool) → 45 ≤ length (whole_head.spell (h, addbsi) ++ l)
head_long h addbsi l =
    let q = head_begins h addbsi l in
    let a = length-append (bits h.syncword 16) (bits h.crc1 16 ++ (bits h.fscod 2 ++ (bits h.frmsizecod 6 ++ (bits h.bsid 5 ++ q.0)))) in
    let b = length-append (bits h.crc1 16) (bits h.fscod 2 ++ (bits h.frmsizecod 6 ++ (bits h.bsid 5 ++ q.0))) in
    let c = length-append (bits h.fscod 2) (bits h.frmsizecod 6 ++ (bits h.bsid 5 ++ q.0)) in
    let d = length-append (bits h.frmsizecod 6) (bits h.bsid 5 ++ q.0) in
    let e = length-append (bits h.bsid 5) q.0 in
    let whole : length (whole_head.spell (h, addbsi) ++ l) ≡ 16 + (16 + (2 + (6 + (5 + length q.0)))) =
    ap length q.1
    ∙ a ∙ ap₂ (λ m n. m + n) (length-bits h.syncword 16)
    (b ∙ ap₂ (λ m n. m + n) (length-bits h.crc1 16)
    (c ∙ ap₂ (λ m n. m + n) (length-bits h.fscod 2)
    (d ∙ ap₂ (λ m n. m + n) (length-bits h.frmsizecod 6) (e ∙ ap (λ n. n + length q.0) (length-bits h.bsid 5))))) in
    omega (arith, whole)

seen : (bytes : List ℕ) (r : Record) → AreBytes bytes → StandsFor (bits_of (take (2 * words_of r.head) bytes)) r → Seen bytes r
unfolding record_spelled
seen bytes r are p =
    let w = words_of r.head in
    let front = take (2 * w) bytes in
    let behind = blocks_spelled r.head [] r.blocks ++ (r.aux ++ tail_spelled r) in
    let more = bits_of (drop (2 * w) bytes) in
    let count : 8 * length front ≡ 16 * w = sym (length-bits_of front) ∙ p.size in
    let kept : length front ≡ min (2 * w) (length bytes) = length-take (2 * w) bytes in
    let least : 45 ≤ length (bits_of front) = subst (λ (l : List Bool). 45 ≤ length l) (sym p.whole) (head_long r.head r.addbsi behind) in
    let bytes_long : length (bits_of front) ≡ 8 * length front = length-bits_of front in
    let enough : 2 * w ≤ length bytes = omega (arith, count, kept) in
    let six : 6 ≤ length bytes = omega (arith, count, kept, least, bytes_long) in
    let all : bits_of bytes ≡ whole_head.spell (r.head, r.addbsi) ++ (behind ++ more) =
    ap bits_of (sym (take-append-drop (2 * w) bytes))
    ∙ bits_of-append front (drop (2 * w) bytes)
    ∙ ap (λ (l : List Bool). l ++ more) p.whole
    ∙ append_assoc (whole_head.spell (r.head, r.addbsi)) behind more in
    let is : Says bytes r.head = says bytes r.head r.addbsi (behind ++ more) are six p.is_record.head all in
    let words : words_at bytes ≡ w = ap₂ code_words is.rate is.code in
    record {
      there = record { head = six; size = is.none; whole = subst (λ (n : ℕ). 2 * n ≤ length bytes) (sym words) enough };
      words = words;
      frame = ap (λ (n : ℕ). bits_of (take (2 * n) bytes)) words ∙ p.whole;
    }

-- the bits before the last 18
room_is : (bytes : List ℕ) (r : Record) → StandsFor (bits_of (take (2 * words_of r.head) bytes)) r → Seen bytes r → room_at bytes ≡ whole_head.spell (r.head, r.addbsi) ++ (blocks_spelled r.head [] r.blocks ++ r.aux)
unfolding record_spelled
room_is bytes r p s =
    let head = whole_head.spell (r.head, r.addbsi) in
    let blocks = blocks_spelled r.head [] r.blocks in
    let fields = head ++ (blocks ++ r.aux) in
    let split : record_spelled r ≡ fields ++ tail_spelled r =
    ap (λ (l : List Bool). head ++ l) (sym (append_assoc blocks r.aux (tail_spelled r))) ∙ sym (append_assoc head (blocks ++ r.aux) (tail_spelled r)) in
    let size : length (record_spelled r) ≡ 16 * words_of r.head = ap length (sym p.whole) ∙ p.size in
    let both : length (record_spelled r) ≡ length fields + length (tail_spelled r) = ap length split ∙ length-append fields (tail_spelled r) in
    let tail = tail_long r in
    let words = s.words in
    let count : 16 * words_at bytes - tail_bits ≡ length fields = omega (arith, size, both, tail, words) in
    ap₂ take count (s.frame ∙ split) ∙ take-append_seam fields (tail_spelled r)

-- ---- faults

front_zero : (bytes : List ℕ) (r : Record) → StandsFor (bits_of (take (2 * words_of r.head) bytes)) r → Seen bytes r → FrontIs bytes 0
front_zero bytes r p s =
    let same : frame_at bytes ≡ bits_of (take (2 * words_of r.head) bytes) = s.frame ∙ sym p.whole in
    subst (λ (l : List Bool). IsRemainder (front_part (words_at bytes) l) 0) (sym same)
    (subst (λ (n : ℕ). IsRemainder (front_part n (bits_of (take (2 * words_of r.head) bytes))) 0) (sym s.words) p.front)

all_zero : (bytes : List ℕ) (r : Record) → StandsFor (bits_of (take (2 * words_of r.head) bytes)) r → Seen bytes r → AllIs bytes 0
all_zero bytes r p s =
    let same : frame_at bytes ≡ bits_of (take (2 * words_of r.head) bytes) = s.frame ∙ sym p.whole in
    subst (λ (l : List Bool). IsRemainder (all_part l) 0) (sym same) p.all

never_short : (bytes : List ℕ) → IsThere bytes → IsShort bytes → ⊥
never_short bytes there (inl few) = let six = there.head in omega (arith, six, few)
never_short bytes there (inr (six, none, less)) = let whole = there.whole in omega (arith, whole, less)

none_some : (o : Option Refused) (e : Refused) → o ≡ None → o ≡ Some e → ⊥
none_some None e p q = absurd cc
none_some (Some x) e p q = absurd cc

never_refused : (bytes : List ℕ) (e : Refused) → IsThere bytes → size_refusal bytes ≡ Some e → ⊥
never_refused bytes e there some = none_some (size_refusal bytes) e there.size some

one_front : (bytes : List ℕ) (r s : ℕ) → FrontIs bytes r → FrontIs bytes s → r ≡ s
one_front bytes r s p q = one_remainder (front_part (words_at bytes) (frame_at bytes)) r s p q

one_all : (bytes : List ℕ) (r s : ℕ) → AllIs bytes r → AllIs bytes s → r ≡ s
one_all bytes r s p q = one_remainder (all_part (frame_at bytes)) r s p q

apart_by : (bytes : List ℕ) (r : Record) (fault : FrameFault) → AreBytes bytes → StandsFor (bits_of (take (2 * words_of r.head) bytes)) r → Seen bytes r → IsFault bytes fault → ⊥
apart_by bytes r (Short have) are p s fault = never_short bytes s.there fault.1
apart_by bytes r (BadCrc1 n) are p s fault = fault.2 (one_front bytes n 0 fault.1 (front_zero bytes r p s))
apart_by bytes r (BadCrc2 n) are p s fault = fault.3 (one_all bytes n 0 fault.2 (all_zero bytes r p s))
apart_by bytes r (Changed row) are p s fault = fault
apart_by bytes r (Field e) are p s (inl refused) = never_refused bytes e s.there refused.1
apart_by bytes r (Field e) are p s (inr (there, front, all, refused)) =
    fields_apart r.head r.addbsi r.blocks (room_at bytes) r.aux e p.is_record.head p.is_record.six p.is_record.blocks (room_is bytes r p s) refused

pub frames_have_no_fault : FramesHaveNoFault
frames_have_no_fault bytes f fault are reading is =
    apart_by bytes reading.of fault are reading.stands (seen bytes reading.of are reading.stands) is

-- one fault of bytes
short_one : (bytes : List ℕ) (have : ℕ) (e : FrameFault) → IsFault bytes (Short have) → IsFault bytes e → Short have ≡ e
short_one bytes have (Short other) p q = ap (λ n. Short n) (p.0 ∙ sym q.0)
short_one bytes have (BadCrc1 n) p q = absurd (never_short bytes q.0 p.1)
short_one bytes have (BadCrc2 n) p q = absurd (never_short bytes q.0 p.1)
short_one bytes have (Changed row) p q = absurd q
short_one bytes have (Field e) p (inr q) = absurd (never_short bytes q.0 p.1)
short_one bytes have (Field e) (is, inl few) (inl q) = let six = q.0 in absurd (omega (arith, six, few))
short_one bytes have (Field e) (is, inr (six, none, less)) (inl q) = absurd (none_some (size_refusal bytes) e none q.1)

front_one : (bytes : List ℕ) (n : ℕ) (e : FrameFault) → IsFault bytes (BadCrc1 n) → IsFault bytes e → BadCrc1 n ≡ e
front_one bytes n (Short have) p q = absurd (never_short bytes p.0 q.1)
front_one bytes n (BadCrc1 m) p q = ap (λ r. BadCrc1 r) (one_front bytes n m p.1 q.1)
front_one bytes n (BadCrc2 m) p q = absurd (p.2 (one_front bytes n 0 p.1 q.1))
front_one bytes n (Changed row) p q = absurd q
front_one bytes n (Field e) p (inl q) = absurd (never_refused bytes e p.0 q.1)
front_one bytes n (Field e) p (inr q) = absurd (p.2 (one_front bytes n 0 p.1 q.1))

all_one : (bytes : List ℕ) (n : ℕ) (e : FrameFault) → IsFault bytes (BadCrc2 n) → IsFault bytes e → BadCrc2 n ≡ e
all_one bytes n (Short have) p q = absurd (never_short bytes p.0 q.1)
all_one bytes n (BadCrc1 m) p q = absurd (q.2 (one_front bytes m 0 q.1 p.1))
all_one bytes n (BadCrc2 m) p q = ap (λ r. BadCrc2 r) (one_all bytes n m p.2 q.2)
all_one bytes n (Changed row) p q = absurd q
all_one bytes n (Field e) p (inl q) = absurd (never_refused bytes e p.0 q.1)
all_one bytes n (Field e) p (inr q) = absurd (p.3 (one_all bytes n 0 p.2 q.2))

some_same : (o : Option Refused) (d e : Refused) → o ≡ Some d → o ≡ Some e → d ≡ e
some_same None d e p q = absurd cc
some_same (Some x) d e p q = cc

field_one : (bytes : List ℕ) (d : Refused) (e : FrameFault) → IsFault bytes (Field d) → IsFault bytes e → Field d ≡ e
field_one bytes d (Short have) p q = sym (short_one bytes have (Field d) q p)
field_one bytes d (BadCrc1 n) p q = sym (front_one bytes n (Field d) q p)
field_one bytes d (BadCrc2 n) p q = sym (all_one bytes n (Field d) q p)
field_one bytes d (Changed row) p q = absurd q
field_one bytes d (Field e) (inl p) (inl q) = ap (λ r. Field r) (some_same (size_refusal bytes) d e p.1 q.1)
field_one bytes d (Field e) (inl p) (inr q) = absurd (never_refused bytes d q.0 p.1)
field_one bytes d (Field e) (inr p) (inl q) = absurd (never_refused bytes e p.0 q.1)
field_one bytes d (Field e) (inr p) (inr q) = ap (λ r. Field r) (fields_one (room_at bytes) d e p.3 q.3)

pub one_fault : OneFault
one_fault bytes (Short have) e p q = short_one bytes have e p q
one_fault bytes (BadCrc1 n) e p q = front_one bytes n e p q
one_fault bytes (BadCrc2 n) e p q = all_one bytes n e p q
one_fault bytes (Changed row) e p q = absurd p
one_fault bytes (Field d) e p q = field_one bytes d e p q
