-- The bits of the frame that is sent, around its two CRC words: what stands between them doesn't depend on them.
use Rattle.std.proofs.Common.{◌≡◌, ℕ, ◌+◌, ◌-◌, ◌*◌, ◌<◌, ◌≤◌, ◌^◌, Bool, false, List, [], ◌∷◌, ◌++◌, append_assoc, length, take, drop, replicate, refl, ap, ap₂, sym, subst, ◌∙◌, arith}
use Rattle.std.proofs.lemmas.List.{length-append, length-take-le, take_at, drop_at, take-append-drop, take-append-le, append-nil}
use Rattle.ac_bits.specs.Bits.{bits}
use Rattle.ac_bits.proofs.Laws.{length-bits}
use Rattle.ac_base.specs.declared.shapes.Shape.{Shape}
use Rattle.ac_base.specs.Sizes.{front_room}
use Rattle.ac_crc.specs.Remainder.{IsRemainder}
use Rattle.ac_codec.specs.Codec.{pair, shaped, field, tested_bit, given, free, some_spell}
use Rattle.ac_rows.specs.Blocks.{Block}
use Rattle.ac_rows.specs.declared.head.Head.{Head}
use Rattle.ac_rows.specs.declared.head_groups.Layout.{Layout}
use Rattle.ac_rows.specs.HeadRows.{layout, layout_rows, service, head_fields, whole_head, layout_of, service_of}
use Rattle.ac_rows.specs.BlockRows.{block_fields, whole_block}
use Rattle.ac_rows.specs.Filled.{listed}
use Rattle.ac_record.specs.Records.{BlockRecord, block_spelled, blocks_spelled, record_spelled, words_of, StandsFor}
use Rattle.ac_record.specs.CrcParts.{front_part, all_part}
use Rattle.ac_sent.specs.Values.{Quantised}
use Rattle.ac_sent.specs.Asked.{IsQuantised, IsSizeCode}
use Rattle.ac_sent.specs.Fields.{sent_head, parts_at}
use Rattle.ac_sent.specs.Packed.{sent_part, sent_record}
use Rattle.ac_sent.specs.Padding.{aux_bits}
use Rattle.ac_sent.proofs.SentRecord.{is_record}
use Rattle.ac_sent.proofs.Sizes.{has_size}

-- ---- the head behind crc1
layout_rest : Layout → List Bool
layout_rest x =
    bits x.fscod 2 ++ (bits x.frmsizecod 6 ++ (bits x.bsid 5 ++ (bits x.bsmod 3 ++ (bits x.acmod 3 ++ (some_spell (λ v. bits v 2) x.cmixlev ++ (some_spell (λ v. bits v 2) x.surmixlev
    ++ (some_spell (λ v. bits v 2) x.dsurmod ++ (x.lfeon ∷ [] ++ bits x.dialnorm 5))))))))

layout_begins : (x : Layout) → layout.spell x ≡ bits x.syncword 16 ++ (bits x.crc1 16 ++ layout_rest x)
unfolding layout layout_rows shaped pair field tested_bit given layout_rest
layout_begins x = refl

head_rest : Head → List Bool
head_rest h = layout_rest (layout_of h) ++ service.spell (service_of h)

three : (a b c d : List Bool) → (a ++ (b ++ c)) ++ d ≡ a ++ (b ++ (c ++ d))
three a b c d = append_assoc a (b ++ c) d ∙ ap (λ l. a ++ l) (append_assoc b c d)

head_begins : (h : Head) → whole_head.spell (h, []) ≡ bits h.syncword 16 ++ (bits h.crc1 16 ++ head_rest h)
unfolding whole_head head_fields shaped pair free head_rest
head_begins h =
    append-nil (layout.spell (layout_of h) ++ service.spell (service_of h))
    ∙ (ap (λ l. l ++ service.spell (service_of h)) (layout_begins (layout_of h)) ∙ three (bits h.syncword 16) (bits h.crc1 16) (layout_rest (layout_of h)) (service.spell (service_of h)))

rest_same : (shape : Shape) (frmsizecod crc1 : ℕ) → head_rest (sent_head shape frmsizecod crc1) ≡ head_rest (sent_head shape frmsizecod 0)
unfolding head_rest layout_rest
rest_same shape code crc1 = refl

-- ---- the blocks
block_same : (shape : Shape) (frmsizecod crc1 : ℕ) (earlier : List Block) (x : BlockRecord) → block_spelled (sent_head shape frmsizecod crc1) earlier x ≡ block_spelled (sent_head shape frmsizecod 0) earlier x
unfolding whole_block block_fields pair
block_same shape code crc1 earlier x = refl

blocks_same : (shape : Shape) (frmsizecod crc1 : ℕ) (xs : List BlockRecord) (earlier : List Block) → blocks_spelled (sent_head shape frmsizecod crc1) earlier xs ≡ blocks_spelled (sent_head shape frmsizecod 0) earlier xs
unfolding blocks_spelled
blocks_same shape code crc1 [] earlier = refl
blocks_same shape code crc1 (x ∷ xs) earlier = ap₂ (λ a b. a ++ b) (block_same shape code crc1 earlier x) (blocks_same shape code crc1 xs (earlier ++ x.fields ∷ []))

-- ---- the frame
-- the aux bits and auxdatae
sent_end : Quantised → List Bool
sent_end q = replicate (aux_bits q.shape.words (parts_at q).total (parts_at q).last) false ++ false ∷ []

-- what stands behind crc1 and before crcrsv
pub sent_body : Quantised → ℕ → List Bool
sent_body q frmsizecod = head_rest (sent_head q.shape frmsizecod 0) ++ (blocks_spelled (sent_head q.shape frmsizecod 0) [] (listed 6 0 (sent_part q)) ++ sent_end q)

five : (a b c d e f g : List Bool) → (a ++ (b ++ c)) ++ (d ++ (e ++ (f ++ g))) ≡ a ++ (b ++ ((c ++ (d ++ (e ++ f))) ++ g))
five a b c d e f g =
    three a b c (d ++ (e ++ (f ++ g)))
    ∙ ap (λ l. a ++ (b ++ l))
    (ap (λ l. c ++ (d ++ l)) (sym (append_assoc e f g)) ∙ (ap (λ l. c ++ l) (sym (append_assoc d (e ++ f) g)) ∙ sym (append_assoc c (d ++ (e ++ f)) g)))

-- the syncword, crc1, what stands between, crcrsv and crc2
pub body_between : (q : Quantised) (frmsizecod crc1 : ℕ) (crcrsv : Bool) (crc2 : ℕ) → record_spelled (sent_record q frmsizecod crc1 crcrsv crc2) ≡ bits 0x0B77 16 ++ (bits crc1 16 ++ (sent_body q frmsizecod ++ crcrsv ∷ bits crc2 16))
unfolding record_spelled sent_record sent_body sent_end
body_between q code crc1 crcrsv crc2 =
    let h = sent_head q.shape code crc1 in
    let aux = replicate (aux_bits q.shape.words (parts_at q).total (parts_at q).last) false in
    let blocks = blocks_spelled h [] (listed 6 0 (sent_part q)) in
    let tail = crcrsv ∷ bits crc2 16 in
    ap (λ l. l ++ (blocks ++ (aux ++ (false ∷ tail)))) (head_begins h)
    ∙ (five (bits 0x0B77 16) (bits crc1 16) (head_rest h) blocks aux (false ∷ []) tail
    ∙ ap₂ (λ x y. bits 0x0B77 16 ++ (bits crc1 16 ++ ((x ++ (y ++ (aux ++ false ∷ []))) ++ tail))) (rest_same q.shape code crc1) (blocks_same q.shape code crc1 (listed 6 0 (sent_part q)) []))

pub body_length : (q : Quantised) (frmsizecod : ℕ) → IsQuantised q → IsSizeCode q.shape.fscod q.shape.words frmsizecod → length (sent_body q frmsizecod) + 49 ≡ 16 * q.shape.words
body_length q code is size =
    let whole = has_size q code 0 false 0 is size (omega arith) (omega arith) in
    let b = sent_body q code in
    let a = length-append (bits 0x0B77 16) (bits 0 16 ++ (b ++ false ∷ bits 0 16)) in
    let c = length-append (bits 0 16) (b ++ false ∷ bits 0 16) in
    let d = length-append b (false ∷ bits 0 16) in
    omega (arith, whole, ap length (body_between q code 0 false 0), a, c, d, length-bits 0x0B77 16, length-bits 0 16)

-- ---- the parts of the CRC words
take_behind : (a b : List Bool) (k n : ℕ) → length a ≡ k → n ≤ length b → take (k + n) (a ++ b) ≡ a ++ take n b
take_behind a b k n long room =
    let e = ap (λ l. a ++ l) (sym (take-append-drop n b)) ∙ sym (append_assoc a (take n b) (drop n b)) in
    ap (take (k + n)) e ∙ take_at (a ++ take n b) (drop n b) (k + n) (omega (arith, length-append a (take n b), length-take-le n b room, long))

pub sent_all : (q : Quantised) (frmsizecod crc1 : ℕ) (crcrsv : Bool) (crc2 : ℕ) → all_part (record_spelled (sent_record q frmsizecod crc1 crcrsv crc2)) ≡ (bits crc1 16 ++ (sent_body q frmsizecod ++ crcrsv ∷ [])) ++ bits crc2 16
sent_all q code crc1 crcrsv crc2 =
    ap (drop 16) (body_between q code crc1 crcrsv crc2)
    ∙ (drop_at (bits 0x0B77 16) (bits crc1 16 ++ (sent_body q code ++ crcrsv ∷ bits crc2 16)) 16 (length-bits 0x0B77 16)
    ∙ (ap (λ l. bits crc1 16 ++ l) (sym (append_assoc (sent_body q code) (crcrsv ∷ []) (bits crc2 16))) ∙ sym (append_assoc (bits crc1 16) (sent_body q code ++ crcrsv ∷ []) (bits crc2 16))))

front_cut : (words : ℕ) (crc1 : ℕ) (body tail : List Bool) → 64 ≤ words → length body + 49 ≡ 16 * words
    → front_part words (bits 0x0B77 16 ++ (bits crc1 16 ++ (body ++ tail))) ≡ bits crc1 16 ++ take (front_room words - 32) body
front_cut words crc1 body tail least long =
    let m = front_room words - 32 in
    let n : front_room words ≡ 16 + (16 + m) = omega (arith, least) in
    let few : m ≤ length body = omega (arith, least, long) in
    let room : m ≤ length (body ++ tail) = omega (arith, few, length-append body tail) in
    let room2 : 16 + m ≤ length (bits crc1 16 ++ (body ++ tail)) = omega (arith, room, length-append (bits crc1 16) (body ++ tail), length-bits crc1 16) in
    ap (drop 16)
    (ap (λ k. take k (bits 0x0B77 16 ++ (bits crc1 16 ++ (body ++ tail)))) n
    ∙ take_behind (bits 0x0B77 16) (bits crc1 16 ++ (body ++ tail)) 16 (16 + m) (length-bits 0x0B77 16) room2)
    ∙ (drop_at (bits 0x0B77 16) (take (16 + m) (bits crc1 16 ++ (body ++ tail))) 16 (length-bits 0x0B77 16)
    ∙ (take_behind (bits crc1 16) (body ++ tail) 16 m (length-bits crc1 16) room ∙ ap (λ l. bits crc1 16 ++ l) (take-append-le m body tail few)))

pub sent_front : (q : Quantised) (frmsizecod crc1 : ℕ) (crcrsv : Bool) (crc2 : ℕ) → IsQuantised q → IsSizeCode q.shape.fscod q.shape.words frmsizecod
    → front_part q.shape.words (record_spelled (sent_record q frmsizecod crc1 crcrsv crc2)) ≡ bits crc1 16 ++ take (front_room q.shape.words - 32) (sent_body q frmsizecod)
sent_front q code crc1 crcrsv crc2 is size =
    ap (front_part q.shape.words) (body_between q code crc1 crcrsv crc2) ∙ front_cut q.shape.words crc1 (sent_body q code) (crcrsv ∷ bits crc2 16) q.shape.least_size (body_length q code is size)

-- ---- what is left to show of a frame: its two remainders
pub words_are : (q : Quantised) (frmsizecod crc1 : ℕ) (crcrsv : Bool) (crc2 : ℕ) → IsSizeCode q.shape.fscod q.shape.words frmsizecod → words_of (sent_record q frmsizecod crc1 crcrsv crc2).head ≡ q.shape.words
unfolding sent_record
words_are q code crc1 crcrsv crc2 size = size.size

pub sent_stands : (q : Quantised) (frmsizecod crc1 : ℕ) (crcrsv : Bool) (crc2 : ℕ) (frame : List Bool) → IsQuantised q → IsSizeCode q.shape.fscod q.shape.words frmsizecod → crc1 < 2 ^ 16 → crc2 < 2 ^ 16
    → frame ≡ record_spelled (sent_record q frmsizecod crc1 crcrsv crc2)
    → IsRemainder (bits crc1 16 ++ take (front_room q.shape.words - 32) (sent_body q frmsizecod)) 0
    → IsRemainder ((bits crc1 16 ++ (sent_body q frmsizecod ++ crcrsv ∷ [])) ++ bits crc2 16) 0
    → StandsFor frame (sent_record q frmsizecod crc1 crcrsv crc2)
sent_stands q code crc1 crcrsv crc2 frame is size word1 word2 whole front all =
    let r = sent_record q code crc1 crcrsv crc2 in
    let words = words_are q code crc1 crcrsv crc2 size in
    record {
      is_record = is_record q code crc1 crcrsv crc2 is size word1 word2;
      whole = whole;
      size = ap length whole ∙ (has_size q code crc1 crcrsv crc2 is size word1 word2 ∙ ap (λ n. 16 * n) (sym words));
      front = subst (λ (l : List Bool). IsRemainder l 0) (sym (ap₂ front_part words whole ∙ sent_front q code crc1 crcrsv crc2 is size)) front;
      all = subst (λ (l : List Bool). IsRemainder l 0) (sym (ap all_part whole ∙ sent_all q code crc1 crcrsv crc2)) all;
    }
