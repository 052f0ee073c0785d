-- A frame from its fields, and why there is none.
use Rattle.std.proofs.Common.{◌≡◌, ℕ, ◌-◌, ◌*◌, ◌^◌, ◌<◌, ◌≤◌, Bool, List, [], ◌∷◌, ◌++◌, length, take, drop, slice_index, refl, ap, ap₂, sym, subst, ◌∙◌, arith, append_assoc, inr}
use Rattle.std.proofs.lemmas.List.{take_all, take-append-drop, length-take-le, length-drop, get_or-take}
use Rattle.ac_base.specs.Sizes.{code_words, tail_bits}
use Rattle.ac_bits.specs.Bits.{bits, num, bits_of}
use Rattle.ac_bits.proofs.Laws.{bits-num, num_below, length-bits_of}
use Rattle.ac_crc.specs.Remainder.{IsRemainder}
use Rattle.ac_rows.specs.Blocks.{Block}
use Rattle.ac_rows.specs.declared.head.Head.{Head}
use Rattle.ac_rows.specs.HeadRows.{whole_head, head_fields}
use Rattle.ac_codec.specs.Codec.{pair}
use Rattle.ac_record.specs.Frames.{FrameCodes}
use Rattle.ac_record.specs.Records.{Record, blocks_spelled, record_spelled, StandsFor, words_of}
use Rattle.ac_record.specs.CrcParts.{front_part, all_part}
use Rattle.ac_record.specs.Readings.{IsReading}
use Rattle.ac_record.specs.Faults.{words_at, frame_at, room_at, FieldsRefuse, FieldIs}
use Rattle.ac_codec.specs.declared.refused.Refused.{Refused}
use Rattle.ac_reading.specs.Framed.{IsFramed, AreFields}
use Rattle.ac_reading.proofs.Sizes.{AreBytes, fifth, codes_are, size_small}

-- the last 18 bits
pub record Tail (l : List Bool) : Type 0 where
  pub auxdatae : Bool
  pub crcrsv : Bool
  pub word : ℕ
  pub fits : word < 2 ^ 16
  pub whole : l ≡ auxdatae ∷ crcrsv ∷ bits word 16

tail_of : (l : List Bool) → length l ≡ 18 → Tail l
tail_of [] e = absurd (omega (arith, e))
tail_of (a ∷ []) e = absurd (omega (arith, e))
tail_of (a ∷ c ∷ l) e =
    let n : length l ≡ 16 = omega (arith, e) in
    record {
      auxdatae = a;
      crcrsv = c;
      word = num l;
      fits = subst (λ (n : ℕ). num l < 2 ^ n) n (num_below l);
      whole = ap (λ (x : List Bool). a ∷ c ∷ x) (sym (subst (λ (n : ℕ). bits (num l) n ≡ l) n (bits-num l)));
    }

record_is : (r : Record) → record_spelled r ≡ whole_head.spell (r.head, r.addbsi) ++ (blocks_spelled r.head [] r.blocks ++ (r.aux ++ (r.auxdatae ∷ r.crcrsv ∷ bits r.crc2 16)))
unfolding record_spelled
record_is r = refl

all_three : (s b a t l : List Bool) → (s ++ (b ++ a)) ++ t ≡ s ++ (b ++ (a ++ t))
all_three s b a t l = append_assoc s (b ++ a) t ∙ ap (λ (x : List Bool). s ++ x) (append_assoc b a t)

take_six : (xs : List Block) → length xs ≡ 6 → take 6 xs ≡ xs
take_six xs e = take_all 6 xs (omega (arith, e))

-- the words that the head says are those of the first bytes
pub words_same : (bytes frame : List ℕ) (f : FrameCodes) (addbsi u : List Bool) → frame ≡ take (2 * words_at bytes) bytes → AreBytes frame → 6 ≤ length frame → slice_index frame 4 ≡ slice_index bytes 4 → whole_head.Lawful (f.head, addbsi) → bits_of frame ≡ whole_head.spell (f.head, addbsi) ++ u
    → words_of f.head ≡ words_at bytes
words_same bytes frame f addbsi u is small long same lawful whole =
    let e = fifth frame f.head addbsi u small long lawful whole in
    let c = codes_are (slice_index bytes 4) f.head.fscod f.head.frmsizecod (sym same ∙ e) (size_small f.head addbsi lawful) in
    ap₂ code_words (sym c.0) (sym c.1)

pub reading_of : (bytes : List ℕ) (n : ℕ) (f : FrameCodes) → IsFramed bytes n → AreBytes (take n bytes) → n ≤ length bytes → slice_index (take n bytes) 4 ≡ slice_index bytes 4
    → AreFields (take (8 * n - tail_bits) (bits_of (take n bytes))) f → IsReading bytes f
reading_of bytes n f framed small long at_four fields =
    let size = framed.sized.size in
    let frame = take n bytes in
    let l = bits_of frame in
    let least = framed.sized.least in
    let frame_long : length frame ≡ n = length-take-le n bytes long in
    let bits_long : length l ≡ 8 * n = length-bits_of frame ∙ ap (λ (x : ℕ). 8 * x) frame_long in
    let cut = 8 * n - tail_bits in
    let tail = drop cut l in
    let halves = take-append-drop cut l in
    let tail_long : length tail ≡ 18 = omega (arith, bits_long, length-drop cut l) in
    let t = tail_of tail tail_long in
    let s = fields.begun in
    let room : take cut l ≡ whole_head.spell (f.head, fields.addbsi) ++ (blocks_spelled f.head [] s.blocks ++ fields.rest) =
    fields.whole ∙ ap (λ (x : List Bool). whole_head.spell (f.head, fields.addbsi) ++ x) s.whole in
    let r : Record = record { head = f.head; addbsi = fields.addbsi; blocks = s.blocks; aux = fields.rest; auxdatae = t.auxdatae; crcrsv = t.crcrsv; crc2 = t.word } in
    let whole : l ≡ record_spelled r =
    sym halves
    ∙ (ap₂ (λ (x y : List Bool). x ++ y) room t.whole
    ∙ (all_three (whole_head.spell (f.head, fields.addbsi)) (blocks_spelled f.head [] s.blocks) fields.rest (t.auxdatae ∷ t.crcrsv ∷ bits t.word 16) []
    ∙ sym (record_is r))) in
    let words : words_of f.head ≡ words_at bytes =
    words_same bytes frame f fields.addbsi _ (ap (λ (x : ℕ). take x bytes) size) small (omega (arith, frame_long, least)) at_four fields.lawful (whole ∙ record_is r) in
    let twice : 2 * words_of f.head ≡ n = ap (λ (x : ℕ). 2 * x) words ∙ sym size in
    let same : bits_of (take (2 * words_of f.head) bytes) ≡ l = ap (λ (x : ℕ). bits_of (take x bytes)) twice in
    let frame_same : frame_at bytes ≡ l = ap (λ (x : ℕ). bits_of (take x bytes)) (sym size) in
    let P : List Bool → Type 0 = λ x. StandsFor x r in
    record {
      of = r;
      stands = subst P (sym same) (record {
        is_record = record { head = fields.lawful; six = s.many; blocks = s.lawful; word = t.fits };
        whole = whole;
        size = omega (arith, bits_long, twice);
        front = subst (λ (w : ℕ). IsRemainder (front_part w l) 0) (sym words) (subst (λ (x : List Bool). IsRemainder (front_part (words_at bytes) x) 0) frame_same framed.front);
        all = subst (λ (x : List Bool). IsRemainder (all_part x) 0) frame_same framed.all;
      });
      reading = record { head = refl; fields = sym (take_six f.block s.long) ∙ s.fields; blocks = s.reading };
    }

head_fields_lawful : (h : Head) (addbsi : List Bool) → whole_head.Lawful (h, addbsi) → head_fields.Lawful h
unfolding whole_head pair
head_fields_lawful h addbsi l = l.0

pub head_lawful : (h : Head) (addbsi : List Bool) → whole_head.Lawful (h, addbsi) → head_fields.Lawful h
head_lawful h addbsi l = head_fields_lawful h addbsi l

bytes_taken : (bytes : List ℕ) (n : ℕ) → n ≤ length bytes → AreBytes bytes → AreBytes (take n bytes)
bytes_taken bytes n le small k lt =
    let long = length-take-le n bytes le in
    let e : slice_index (take n bytes) k ≡ slice_index bytes k = get_or-take n bytes k 0 (omega (arith, long)) in
    subst (λ (x : ℕ). x < 2 ^ 8) (sym e) (small k (omega (arith, long)))

framed_whole : (bytes : List ℕ) (n : ℕ) → IsFramed bytes n → n ≤ length bytes
framed_whole bytes n f = let w = f.sized.there.whole in omega (arith, f.sized.size)

pub frame_read : (bytes : List ℕ) (n : ℕ) (f : FrameCodes) → IsFramed bytes n → AreBytes bytes → AreFields (take (8 * length (take n bytes) - tail_bits) (bits_of (take n bytes))) f → IsReading bytes f
frame_read bytes n f framed small fields =
    let le = framed_whole bytes n framed in
    let long = length-take-le n bytes le in
    let least = framed.sized.least in
    reading_of bytes n f framed (bytes_taken bytes n le small) le (get_or-take n bytes 4 0 (omega arith))
    (subst (λ (m : ℕ). AreFields (take (8 * m - tail_bits) (bits_of (take n bytes))) f) long fields)

pub frame_refused : (bytes : List ℕ) (n : ℕ) (e : Refused) → IsFramed bytes n → FieldsRefuse (take (8 * length (take n bytes) - tail_bits) (bits_of (take n bytes))) e → FieldIs bytes e
frame_refused bytes n e framed r =
    let le = framed_whole bytes n framed in
    let long = length-take-le n bytes le in
    let bits : 8 * length (take n bytes) - tail_bits ≡ 16 * words_at bytes - tail_bits = omega (arith, long, framed.sized.size) in
    let room : take (8 * length (take n bytes) - tail_bits) (bits_of (take n bytes)) ≡ room_at bytes =
    ap₂ (λ (m : ℕ) (l : List Bool). take m l) bits (ap (λ (x : ℕ). bits_of (take x bytes)) framed.sized.size) in
    inr (framed.sized.there, framed.front, framed.all, subst (λ (l : List Bool). FieldsRefuse l e) room r)
