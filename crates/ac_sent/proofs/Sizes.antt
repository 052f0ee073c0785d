-- What is sent has the bits of the frame's size.
use Rattle.std.proofs.Common.{◌≡◌, ℕ, suc, ◌+◌, ◌*◌, ◌<◌, ◌≤◌, ◌^◌, false, List, [], ◌∷◌, ◌++◌, length, replicate, sum, refl, ap, sym, ◌∙◌, arith}
use Rattle.std.proofs.lemmas.List.{length-append, length-replicate}
use Rattle.ac_bits.proofs.Laws.{length-bits}
use Rattle.ac_base.specs.Fit.{block_cost, mantissas_in}
use Rattle.ac_base.specs.Shape.{coded_of, span_of}
use Rattle.ac_base.specs.SideBits.{head_rows, first_block_rows, later_block_rows, side_front, side_total}
use Rattle.ac_base.specs.Sigma.{sum_below}
use Rattle.ac_codec.specs.Codec.{pair, free}
use Rattle.ac_mant.specs.Groups.{closed, zeros, spelled}
use Rattle.ac_rows.specs.Blocks.{Block}
use Rattle.ac_rows.specs.declared.head.Head.{Head}
use Rattle.ac_rows.specs.HeadRows.{head_fields, whole_head}
use Rattle.ac_rows.specs.BlockRows.{block_fields, whole_block, skip_bits}
use Rattle.ac_rows.specs.Filled.{listed}
use Rattle.ac_record.specs.Records.{Record, block_spelled, blocks_spelled, tail_spelled, record_spelled}
use Rattle.ac_syntax.proofs.SideLaws.{head_is_side}
use Rattle.ac_sent.specs.Values.{Quantised}
use Rattle.ac_sent.specs.Asked.{IsQuantised}
use Rattle.ac_sent.specs.Fields.{sent_head, sent_block, pointer_at, parts_at}
use Rattle.ac_sent.specs.Laws.{KeepsRooms, SentHasSize}
use Rattle.ac_sent.specs.Packed.{sent_mantissas, sent_part, sent_record}
use Rattle.ac_sent.specs.Padding as padding
use Rattle.ac_sent.proofs.Padding.{keeps_rooms}
use Rattle.ac_sent.proofs.Earlier.{sent_before, before_none, before_more}
use Rattle.ac_sent.proofs.Heads.{head_lawful}
use Rattle.ac_sent.proofs.Blocks.{later_skip}
use Rattle.ac_sent.proofs.Tallies.{mantissas_cost}
use Rattle.ac_sent.proofs.Sides.{first_bits, later_bits}

-- ---- the head
whole_head_length : (h : Head) → length (whole_head.spell (h, [])) ≡ length (head_fields.spell h)
unfolding whole_head pair free
whole_head_length h = omega (arith, length-append (head_fields.spell h) [])

pub head_length : (q : Quantised) (frmsizecod crc1 : ℕ) → frmsizecod < 38 → crc1 < 2 ^ 16 → length (whole_head.spell (sent_head q.shape frmsizecod crc1, [])) ≡ sum (head_rows q.shape.acmod)
head_length q code crc1 known word =
    whole_head_length (sent_head q.shape code crc1)
    ∙ head_is_side (sent_head q.shape code crc1) (head_lawful q.shape code crc1 known word) (record { compre = refl; langcode = refl; audprodie = refl; timecod1e = refl; timecod2e = refl; addbsie = refl })

-- ---- a block
whole_length : (h : Head) (earlier : List Block) (d : Block) → length ((whole_block h earlier).spell (d, replicate (skip_bits d) false)) ≡ length ((block_fields h earlier).spell d) + skip_bits d
unfolding whole_block pair free
whole_length h earlier d = omega (arith, length-append ((block_fields h earlier).spell d) (replicate (skip_bits d) false), length-replicate (skip_bits d) false)

part_length : (q : Quantised) (h : Head) (b : ℕ) → length (block_spelled h (sent_before q b) (sent_part q b)) ≡ length ((block_fields h (sent_before q b)).spell (sent_block q b)) + skip_bits (sent_block q b)
    + mantissas_in (span_of q.shape.acmod q.shape.bw q.shape.couple) (coded_of q.shape.acmod q.shape.lfe q.shape.couple) (pointer_at q) b
part_length q h b =
    omega (arith, length-append ((whole_block h (sent_before q b)).spell (sent_block q b, replicate (skip_bits (sent_block q b)) false)) (spelled zeros closed (sent_mantissas q b)), whole_length h (sent_before q b) (sent_block q b), mantissas_cost q b)

abbrev cost_at : Quantised → ℕ → ℕ
cost_at q b = block_cost q.shape.acmod q.shape.lfe q.shape.bw q.shape.couple q.assign.w (pointer_at q) b

pub first_length : (q : Quantised) → IsQuantised q → (frmsizecod crc1 : ℕ) → frmsizecod < 38 → crc1 < 2 ^ 16
    → length (block_spelled (sent_head q.shape frmsizecod crc1) (sent_before q 0) (sent_part q 0)) ≡ sum (first_block_rows q.shape.acmod q.shape.lfe q.shape.couple) + cost_at q 0
first_length q is code crc1 known word =
    omega (arith, part_length q (sent_head q.shape code crc1) 0, first_bits q is code crc1 known word)

pub later_length : (q : Quantised) → IsQuantised q → (frmsizecod crc1 : ℕ) → frmsizecod < 38 → crc1 < 2 ^ 16 → (n : ℕ) → suc n < 6
    → length (block_spelled (sent_head q.shape frmsizecod crc1) (sent_before q (suc n)) (sent_part q (suc n)))
    ≡ sum (later_block_rows q.shape.acmod q.shape.lfe q.shape.couple) + cost_at q (suc n) + padding.skip_bits (padding.skip (padding.to_skip q.shape.words (parts_at q).total (parts_at q).last) (suc n))
later_length q is code crc1 known word n in_frame =
    let e = ap padding.skip_bits (later_skip q n) in
    omega (arith, part_length q (sent_head q.shape code crc1) (suc n), later_bits q is code crc1 known word n in_frame, e)

-- ---- all blocks
abbrev pub spelled_at : Quantised → Head → ℕ → ℕ
spelled_at q h b = length (block_spelled h (sent_before q b) (sent_part q b))

more_length : (q : Quantised) (h : Head) (n i : ℕ) → length (blocks_spelled h (sent_before q i) (listed (suc n) i (sent_part q))) ≡ spelled_at q h i + length (blocks_spelled h (sent_before q (suc i)) (listed n (suc i) (sent_part q)))
unfolding blocks_spelled listed
more_length q h n i =
    length-append (block_spelled h (sent_before q i) (sent_part q i)) (blocks_spelled h (sent_before q i ++ sent_block q i ∷ []) (listed n (suc i) (sent_part q)))
    ∙ ap (λ (l : List Block). spelled_at q h i + length (blocks_spelled h l (listed n (suc i) (sent_part q)))) (sym (before_more q i))

none_length : (q : Quantised) (h : Head) (i : ℕ) → length (blocks_spelled h (sent_before q i) (listed 0 i (sent_part q))) ≡ 0
unfolding blocks_spelled listed
none_length q h i = refl

pub blocks_length : (q : Quantised) (h : Head) → length (blocks_spelled h [] (listed 6 0 (sent_part q))) ≡ spelled_at q h 0 + spelled_at q h 1 + spelled_at q h 2 + spelled_at q h 3 + spelled_at q h 4 + spelled_at q h 5
blocks_length q h =
    ap (λ (l : List Block). length (blocks_spelled h l (listed 6 0 (sent_part q)))) (sym (before_none q))
    ∙ omega (arith, more_length q h 5 0, more_length q h 4 1, more_length q h 3 2, more_length q h 2 3, more_length q h 1 4, more_length q h 0 5, none_length q h 6)

-- ---- the parts
total_is : (q : Quantised) → (parts_at q).total ≡ sum (head_rows q.shape.acmod) + sum (first_block_rows q.shape.acmod q.shape.lfe q.shape.couple) + 5 * sum (later_block_rows q.shape.acmod q.shape.lfe q.shape.couple) + 18
    + cost_at q 0 + cost_at q 1 + cost_at q 2 + cost_at q 3 + cost_at q 4 + cost_at q 5
unfolding side_total sum_below
total_is q = omega arith

front_is : (q : Quantised) → (parts_at q).front ≡ sum (head_rows q.shape.acmod) + sum (first_block_rows q.shape.acmod q.shape.lfe q.shape.couple) + sum (later_block_rows q.shape.acmod q.shape.lfe q.shape.couple) + cost_at q 0 + cost_at q 1
unfolding side_front sum_below
front_is q = omega arith

last_is : (q : Quantised) → (parts_at q).last ≤ cost_at q 5
last_is q = omega arith

-- the padding of a frame keeps both rooms
pub rooms_kept : (q : Quantised) → IsQuantised q → KeepsRooms q.shape.words (parts_at q)
rooms_kept q is =
    let t = total_is q in
    let f = front_is q in
    let l = last_is q in
    keeps_rooms q.shape.words (parts_at q) q.shape.least_size q.shape.most_size (omega (arith, t, f)) (omega (arith, t, l)) is.fits

-- ---- the frame
skipped_is : (x : ℕ) → padding.skipped x ≡ padding.skip_bits (padding.skip x 1) + padding.skip_bits (padding.skip x 2) + padding.skip_bits (padding.skip x 3) + padding.skip_bits (padding.skip x 4) + padding.skip_bits (padding.skip x 5)
unfolding padding.skipped
skipped_is x = refl

tail_length : (r : Record) → length (tail_spelled r) ≡ 18
tail_length r = omega (arith, length-bits r.crc2 16)

record_length : (r : Record) → length (record_spelled r) ≡ length (whole_head.spell (r.head, r.addbsi)) + length (blocks_spelled r.head [] r.blocks) + length r.aux + 18
unfolding record_spelled
record_length r =
    omega (arith, length-append (whole_head.spell (r.head, r.addbsi)) (blocks_spelled r.head [] r.blocks ++ (r.aux ++ tail_spelled r)), length-append (blocks_spelled r.head [] r.blocks) (r.aux ++ tail_spelled r), length-append r.aux (tail_spelled r), tail_length r)

pub has_size : SentHasSize
unfolding sent_record
has_size q code crc1 crcrsv crc2 is size word1 word2 =
    let h = sent_head q.shape code crc1 in
    let x = padding.to_skip q.shape.words (parts_at q).total (parts_at q).last in
    let r = record_length (sent_record q code crc1 crcrsv crc2) in
    let a = head_length q code crc1 size.known word1 in
    let b = blocks_length q h in
    let l0 = first_length q is code crc1 size.known word1 in
    let l1 = later_length q is code crc1 size.known word1 0 (omega arith) in
    let l2 = later_length q is code crc1 size.known word1 1 (omega arith) in
    let l3 = later_length q is code crc1 size.known word1 2 (omega arith) in
    let l4 = later_length q is code crc1 size.known word1 3 (omega arith) in
    let l5 = later_length q is code crc1 size.known word1 4 (omega arith) in
    let c = length-replicate (padding.aux_bits q.shape.words (parts_at q).total (parts_at q).last) false in
    let t = total_is q in
    let k = (rooms_kept q is).shared in
    let s = skipped_is x in
    let w = is.fits.whole in
    r ∙ omega (arith, a, b, l0, l1, l2, l3, l4, l5, c, t, k, s, w)
