-- Bytes 4 to 7 of a frame are told by its shape and the code of its size, whatever its plan (A/52 5.3.1, 5.3.2).
use Rattle.std.proofs.Common.{◌≡◌, ℕ, zero, suc, ◌<◌, ◌≤◌, ◌^◌, Bool, List, [], ◌∷◌, ◌++◌, length, take, drop, sum, refl, ap, sym, subst, ◌∙◌, arith}
use Rattle.std.proofs.lemmas.List.{length-drop, drop-append-le, take-append-le}
use Rattle.ac_base.specs.declared.shapes.Shape.{Shape}
use Rattle.ac_base.specs.SideBits.{head_rows}
use Rattle.ac_bits.specs.Bits.{bits, bits_of}
use Rattle.ac_bits.proofs.Laws.{length-bits_of, bits_same}
use Rattle.ac_codec.specs.Codec.{pair, shaped, field, tested_bit, given, free}
use Rattle.ac_plan.specs.declared.answer.Plan.{Plan}
use Rattle.ac_record.specs.Laws.{AreBytes}
use Rattle.ac_record.specs.Records.{record_spelled, blocks_spelled, tail_spelled}
use Rattle.ac_record.proofs.Leading.{head_is}
use Rattle.ac_rows.specs.HeadRows.{layout, layout_rows, service, head_fields, whole_head}
use Rattle.ac_sent.specs.Asked.{IsSizeCode}
use Rattle.ac_sent.specs.Fields.{sent_head}
use Rattle.ac_sent.specs.Packed.{sent_record, IsPacked}
use Rattle.ac_sent.specs.Values.{Quantised}
use Rattle.ac_sent.proofs.SizeCodes.{one_code}
use Rattle.ac_sent.proofs.Sizes.{head_length}
use Rattle.ac_words.specs.declared.meaning.Options.{Options}
use Rattle.ac_coding.specs.Values.{values_of}
use Rattle.ac_enc.specs.Frame.{Places, IsFrame}
use Rattle.ac_enc.specs.Layout.{Layout}
use Rattle.ac_encode.proofs.Bits.{bits_of-take, bits_of-drop}
use Rattle.ac_encode.proofs.OneShape.{one_shape}

-- ---- bytes
tail_bytes : (b : ℕ) (l : List ℕ) → AreBytes (b ∷ l) → AreBytes l
tail_bytes b l are k below = are (suc k) (omega arith)

drop_bytes : (n : ℕ) (l : List ℕ) → AreBytes l → AreBytes (drop n l)
drop_bytes zero l are = are
drop_bytes (suc n) [] are = are
drop_bytes (suc n) (b ∷ l) are = drop_bytes n l (tail_bytes b l are)

one_more : (b : ℕ) (l : List ℕ) → b < 2 ^ 8 → AreBytes l → AreBytes (b ∷ l)
one_more b l small are zero below = small
one_more b l small are (suc k) below = are k (omega arith)

take_bytes : (n : ℕ) (l : List ℕ) → AreBytes l → AreBytes (take n l)
take_bytes zero l are = λ k below. absurd (omega arith)
take_bytes (suc n) [] are = are
take_bytes (suc n) (b ∷ l) are = one_more b (take n l) (are 0 (omega arith)) (take_bytes n l (tail_bytes b l are))

-- bytes with the same bits are the same
same_bytes : (f g : List ℕ) → AreBytes f → AreBytes g → bits_of f ≡ bits_of g → f ≡ g
same_bytes [] [] p q e = refl
same_bytes [] (y ∷ g) p q e = absurd (omega (arith, ap length e, length-bits_of (y ∷ g)))
same_bytes (x ∷ f) [] p q e = absurd (omega (arith, ap length e, length-bits_of (x ∷ f)))
same_bytes (x ∷ f) (y ∷ g) p q e =
    let both = bits_same x 8 y (bits_of f) (bits_of g) (p 0 (omega arith)) (q 0 (omega arith)) e in
    ap (λ z. z ∷ f) both.0 ∙ ap (λ l. y ∷ l) (same_bytes f g (tail_bytes x f p) (tail_bytes y g q) both.1)

-- bytes 4 to 7
abbrev after : List ℕ → List ℕ
after f = take 4 (drop 4 f)

after_bits : (f : List ℕ) → bits_of (after f) ≡ take 32 (drop 32 (bits_of f))
after_bits f = bits_of-take 4 (drop 4 f) ∙ ap (take 32) (bits_of-drop 4 f)

-- ---- the head
abbrev head_bits : Shape → ℕ → ℕ → List Bool
head_bits shape code crc1 = whole_head.spell (sent_head shape code crc1, [])

behind_crc1 : (shape : Shape) (code crc1 : ℕ) → drop 32 (head_bits shape code crc1) ≡ drop 32 (head_bits shape code 0)
unfolding whole_head head_fields layout layout_rows service shaped pair field tested_bit given free bits
behind_crc1 shape code crc1 = refl

-- what stands behind the head
rest_bits : Quantised → ℕ → ℕ → Bool → ℕ → List Bool
rest_bits q code crc1 crcrsv crc2 =
    let r = sent_record q code crc1 crcrsv crc2 in blocks_spelled r.head [] r.blocks ++ (r.aux ++ tail_spelled r)

head_first : (q : Quantised) (code crc1 : ℕ) (crcrsv : Bool) (crc2 : ℕ) → record_spelled (sent_record q code crc1 crcrsv crc2) ≡ head_bits q.shape code crc1 ++ rest_bits q code crc1 crcrsv crc2
unfolding record_spelled sent_record rest_bits
head_first q code crc1 crcrsv crc2 = refl

crc1_fits : (q : Quantised) (f : List ℕ) (p : IsPacked q f) → p.crc1 < 2 ^ 16
unfolding sent_record
crc1_fits q f p = (head_is (sent_head q.shape p.frmsizecod p.crc1) [] p.stands.is_record.head).crc1_fits

cut : (head rest : List Bool) → 64 ≤ length head → take 32 (drop 32 (head ++ rest)) ≡ take 32 (drop 32 head)
cut head rest long =
    ap (take 32) (drop-append-le 32 head rest (omega arith)) ∙ take-append-le 32 (drop 32 head) rest (omega (arith, length-drop 32 head))

rows_least : (acmod : ℕ) → 64 ≤ sum (head_rows acmod)
rows_least acmod = omega arith

packed_head : (q : Quantised) (f : List ℕ) (p : IsPacked q f) → take 32 (drop 32 (bits_of f)) ≡ take 32 (drop 32 (head_bits q.shape p.frmsizecod 0))
packed_head q f p =
    let code = p.frmsizecod in
    let long = head_length q code p.crc1 p.size.known (crc1_fits q f p) in
    ap (λ l. take 32 (drop 32 l)) (p.stands.whole ∙ head_first q code p.crc1 p.crcrsv p.crc2)
    ∙ (cut (head_bits q.shape code p.crc1) (rest_bits q code p.crc1 p.crcrsv p.crc2) (omega (arith, long, rows_least q.shape.acmod)) ∙ ap (take 32) (behind_crc1 q.shape code p.crc1))

-- ---- two frames of one shape
packed_heads : (q r : Quantised) (f g : List ℕ) → q.shape ≡ r.shape → IsPacked q f → IsPacked r g → take 32 (drop 32 (bits_of f)) ≡ take 32 (drop 32 (bits_of g))
packed_heads q r f g same p s =
    let code = subst (λ (h : Shape). IsSizeCode h.fscod h.words p.frmsizecod) same p.size in
    let codes = one_code r.shape.fscod r.shape.words p.frmsizecod s.frmsizecod r.shape.sampling code s.size in
    packed_head q f p
    ∙ (ap (λ (h : Shape). take 32 (drop 32 (head_bits h p.frmsizecod 0))) same
    ∙ (ap (λ (k : ℕ). take 32 (drop 32 (head_bits r.shape k 0))) codes ∙ sym (packed_head r g s)))

pub heads : (o : Options) (l : Layout) (i : ℕ) (x : Places) (plan other : Plan) (f g : List ℕ) → AreBytes f → AreBytes g → IsFrame o l i x plan f → IsFrame o l i x other g
    → take 4 (drop 4 f) ≡ take 4 (drop 4 g)
unfolding values_of
heads o l i x plan other f g bf bg p q =
    let bits = packed_heads _ _ f g (one_shape o l i x p.shape q.shape p.shape_is q.shape_is) p.coded q.coded in
    same_bytes (after f) (after g) (take_bytes 4 (drop 4 f) (drop_bytes 4 f bf)) (take_bytes 4 (drop 4 g) (drop_bytes 4 g bg)) (after_bits f ∙ (bits ∙ sym (after_bits g)))
