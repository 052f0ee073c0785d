-- Bytes that stand for a record have no fault.
use Rattle.std.proofs.Common.{◌≡◌, inl, inr, ℕ, suc, ◌+◌, ◌-◌, ◌*◌, ◌≤◌, Bool, List, [], ◌++◌, append_assoc, length, take, Option, Some, None, ap, ap₂, sym, subst, ◌∙◌, arith}
use Rattle.std.proofs.Math.Seq.{take-append_seam}
use Rattle.std.proofs.lemmas.List.{length-append, take_all}
use Rattle.ac_base.specs.Sizes.{code_words, tail_bits}
use Rattle.ac_bits.specs.Bits.{bits_of}
use Rattle.ac_bits.proofs.Laws.{length-bits, length-bits_of}
use Rattle.ac_crc.specs.Remainder.{IsRemainder}
use Rattle.ac_crc.proofs.Remainders.{one_remainder}
use Rattle.ac_codec.specs.declared.refused.Refused.{Refused}
use Rattle.ac_rows.specs.HeadRows.{whole_head}
use Rattle.ac_record.specs.declared.codes.FrameFault.{FrameFault}
use Rattle.ac_record.specs.declared.codes.FrameFault.TheVariants.{Short, BadCrc1, BadCrc2, Changed, Field}
use Rattle.ac_record.specs.CrcParts.{front_part, all_part}
use Rattle.ac_record.specs.Faults.{size_refusal, words_at, frame_at, room_at, IsThere, FrontIs, AllIs, IsShort, IsFault}
use Rattle.ac_record.specs.Laws.{AreBytes}
use Rattle.ac_record.specs.Records.{Record, blocks_spelled, tail_spelled, record_spelled, words_of, StandsFor}
use Rattle.ac_record.proofs.Heads.{fields_apart}
use Rattle.ac_record.proofs.Leading.{Says, says}

-- ---- what is seen of them

record Seen (bytes : List ℕ) (r : Record) : Type 0 where
  there : IsThere bytes
  words : words_at bytes ≡ words_of r.head
  frame : frame_at bytes ≡ bits_of bytes

pub size_of : (bytes : List ℕ) (r : Record) → StandsFor (bits_of bytes) r → length bytes ≡ 2 * words_of r.head
size_of bytes r p = let long = length-bits_of bytes in omega (arith, long, p.size)

seen : (bytes : List ℕ) (r : Record) → AreBytes bytes → 6 ≤ length bytes → StandsFor (bits_of bytes) r → Seen bytes r
unfolding record_spelled
seen bytes r are six p =
    let rest = blocks_spelled r.head [] r.blocks ++ (r.aux ++ tail_spelled r) in
    let is : Says bytes r.head = says bytes r.head r.addbsi rest are six p.is_record.head p.whole in
    let words : words_at bytes ≡ words_of r.head = ap₂ code_words is.rate is.code in
    let size = size_of bytes r p in
    let whole : 2 * words_at bytes ≤ length bytes = omega (arith, words, size) in
    record {
      there = record { head = six; size = is.none; whole = whole };
      words = words;
      frame = ap bits_of (take_all (2 * words_at bytes) bytes (omega (arith, words, size)));
    }

tail_long : (r : Record) → length (tail_spelled r) ≡ 18
tail_long r = ap (λ (n : ℕ). suc (suc n)) (length-bits r.crc2 16)

-- the bits before the last 18
room_is : (bytes : List ℕ) (r : Record) → StandsFor (bits_of bytes) r → Seen bytes r → room_at bytes ≡ whole_head.spell (r.head, r.addbsi) ++ (blocks_spelled r.head [] r.blocks ++ r.aux)
unfolding record_spelled
room_is bytes r p s =
    let head = whole_head.spell (r.head, r.addbsi) in
    let blocks = blocks_spelled r.head [] r.blocks in
    let fields = head ++ (blocks ++ r.aux) in
    let split : record_spelled r ≡ fields ++ tail_spelled r =
    ap (λ (l : List Bool). head ++ l) (sym (append_assoc blocks r.aux (tail_spelled r))) ∙ sym (append_assoc head (blocks ++ r.aux) (tail_spelled r)) in
    let size : length (record_spelled r) ≡ 16 * words_of r.head = ap length (sym p.whole) ∙ p.size in
    let both : length (record_spelled r) ≡ length fields + length (tail_spelled r) = ap length split ∙ length-append fields (tail_spelled r) in
    let tail = tail_long r in
    let words = s.words in
    let count : 16 * words_at bytes - tail_bits ≡ length fields = omega (arith, size, both, tail, words) in
    ap₂ take count (s.frame ∙ (p.whole ∙ split)) ∙ take-append_seam fields (tail_spelled r)

-- ---- faults

front_zero : (bytes : List ℕ) (r : Record) → StandsFor (bits_of bytes) r → Seen bytes r → FrontIs bytes 0
front_zero bytes r p s =
    subst (λ (l : List Bool). IsRemainder (front_part (words_at bytes) l) 0) (sym s.frame)
    (subst (λ (n : ℕ). IsRemainder (front_part n (bits_of bytes)) 0) (sym s.words) p.front)

all_zero : (bytes : List ℕ) (r : Record) → StandsFor (bits_of bytes) r → Seen bytes r → AllIs bytes 0
all_zero bytes r p s = subst (λ (l : List Bool). IsRemainder (all_part l) 0) (sym s.frame) p.all

never_short : (bytes : List ℕ) → IsThere bytes → IsShort bytes → ⊥
never_short bytes there (inl few) = let six = there.head in omega (arith, six, few)
never_short bytes there (inr (six, none, less)) = let whole = there.whole in omega (arith, whole, less)

none_some : (o : Option Refused) (e : Refused) → o ≡ None → o ≡ Some e → ⊥
none_some None e p q = absurd cc
none_some (Some x) e p q = cc

never_refused : (bytes : List ℕ) (e : Refused) → IsThere bytes → size_refusal bytes ≡ Some e → ⊥
never_refused bytes e there some = none_some (size_refusal bytes) e there.size some

apart_by : (bytes : List ℕ) (r : Record) (fault : FrameFault) → StandsFor (bits_of bytes) r → Seen bytes r → IsFault bytes fault → ⊥
apart_by bytes r (Short have) p s fault = never_short bytes s.there fault.1
apart_by bytes r (BadCrc1 n) p s fault = fault.2 (one_remainder (front_part (words_at bytes) (frame_at bytes)) n 0 fault.1 (front_zero bytes r p s))
apart_by bytes r (BadCrc2 n) p s fault = fault.3 (one_remainder (all_part (frame_at bytes)) n 0 fault.2 (all_zero bytes r p s))
apart_by bytes r (Changed row) p s fault = fault
apart_by bytes r (Field e) p s (inl refused) = never_refused bytes e s.there refused.1
apart_by bytes r (Field e) p s (inr (there, front, all, refused)) =
    fields_apart r.head r.addbsi r.blocks (room_at bytes) r.aux e p.is_record.head p.is_record.six p.is_record.blocks (room_is bytes r p s) refused

pub no_fault : (bytes : List ℕ) (r : Record) (fault : FrameFault) → AreBytes bytes → 6 ≤ length bytes → StandsFor (bits_of bytes) r → IsFault bytes fault → ⊥
no_fault bytes r fault are six p is = apart_by bytes r fault p (seen bytes r are six p) is
