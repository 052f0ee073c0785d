-- Bytes have one reading's head, whose fscod and frmsizecod are lawful.
use Rattle.std.proofs.Common.{◌≡◌, ℕ, ◌*◌, ◌^◌, ◌<◌, ◌≤◌, Bool, List, [], ◌++◌, length, take, slice_index, None, refl, ap, ap₂, sym, subst, ◌∙◌, arith, length-append, inl, inr}
use Rattle.std.proofs.lemmas.Bool.{cases_lt, le-ltb}
use Rattle.std.proofs.lemmas.List.{length-take, get_or-take}
use Rattle.ac_base.specs.Sizes.{code_words}
use Rattle.ac_bits.specs.Bits.{bits, bits_of}
use Rattle.ac_bits.proofs.Laws.{length-bits, length-bits_of}
use Rattle.ac_codec.specs.Codec.{pair, shaped, field, below}
use Rattle.ac_codec.specs.declared.refused.Row.TheVariants.{Fscod, Frmsizecod}
use Rattle.ac_reading.proofs.Sizes.{AreBytes, Front, head_front, fifth, codes_are, size_small}
use Rattle.ac_record.specs.Faults.{words_at}
use Rattle.ac_record.specs.Frames.{FrameCodes}
use Rattle.ac_record.specs.Readings.{IsReading}
use Rattle.ac_record.specs.Records.{Record, blocks_spelled, tail_spelled, record_spelled, words_of, StandsFor}
use Rattle.ac_record.proofs.Whole.{one_record}
use Rattle.ac_rows.specs.declared.head.Head.{Head}
use Rattle.ac_rows.specs.HeadRows.{whole_head, head_fields, layout, layout_rows}
use Rattle.ac_dec.specs.Decoding.{kind_of}

-- ---- the words of a frame are those that its bytes say

front_long : (h : Head) (l : List Bool) → Front h l → 40 ≤ length l
front_long h l f =
    let a = length-append (bits h.syncword 16) (bits h.crc1 16 ++ (bits h.fscod 2 ++ (bits h.frmsizecod 6 ++ f.rest))) in
    let b = length-append (bits h.crc1 16) (bits h.fscod 2 ++ (bits h.frmsizecod 6 ++ f.rest)) in
    let c = length-append (bits h.fscod 2) (bits h.frmsizecod 6 ++ f.rest) in
    let d = length-append (bits h.frmsizecod 6) f.rest in
    let whole = ap length f.whole in
    let p = length-bits h.syncword 16 in
    let q = length-bits h.crc1 16 in
    let r = length-bits h.fscod 2 in
    let s = length-bits h.frmsizecod 6 in
    omega (arith, a, b, c, d, whole, p, q, r, s)

taken_bytes : (bytes : List ℕ) (n : ℕ) → AreBytes bytes → AreBytes (take n bytes)
taken_bytes bytes n small k lt =
    let long = length-take n bytes in
    let e : slice_index (take n bytes) k ≡ slice_index bytes k = get_or-take n bytes k 0 (omega (arith, lt, long)) in
    subst (λ (x : ℕ). x < 2 ^ 8) (sym e) (small k (omega (arith, lt, long)))

record_begins : (r : Record) → record_spelled r ≡ whole_head.spell (r.head, r.addbsi) ++ (blocks_spelled r.head [] r.blocks ++ (r.aux ++ tail_spelled r))
unfolding record_spelled
record_begins r = refl

words_are : (bytes : List ℕ) (r : Record) → AreBytes bytes → StandsFor (bits_of (take (2 * words_of r.head) bytes)) r → words_of r.head ≡ words_at bytes
words_are bytes r small stands =
    let h = r.head in
    let w = words_of h in
    let front = take (2 * w) bytes in
    let behind = blocks_spelled h [] r.blocks ++ (r.aux ++ tail_spelled r) in
    let whole : bits_of front ≡ whole_head.spell (h, r.addbsi) ++ behind = stands.whole ∙ record_begins r in
    let least : 40 ≤ length (bits_of front) = front_long h (bits_of front) (subst (Front h) (sym whole) (head_front h r.addbsi behind)) in
    let size = stands.size in
    let bytes_long = length-bits_of front in
    let kept = length-take (2 * w) bytes in
    let six : 6 ≤ length front = omega (arith, least, size, bytes_long) in
    let e = fifth front h r.addbsi behind (taken_bytes bytes (2 * w) small) six stands.is_record.head whole in
    let same : slice_index front 4 ≡ slice_index bytes 4 = get_or-take (2 * w) bytes 4 0 (omega (arith, six, kept)) in
    let c = codes_are (slice_index bytes 4) h.fscod h.frmsizecod (sym same ∙ e) (size_small h r.addbsi stands.is_record.head) in
    ap₂ code_words (sym c.0) (sym c.1)

-- ---- one head

pub one_head : (bytes : List ℕ) (f g : FrameCodes) → AreBytes bytes → IsReading bytes f → IsReading bytes g → f.head ≡ g.head
one_head bytes f g small p q =
    let one = words_are bytes p.of small p.stands in
    let two = words_are bytes q.of small q.stands in
    let first : StandsFor (bits_of (take (2 * words_at bytes) bytes)) p.of = subst (λ (n : ℕ). StandsFor (bits_of (take (2 * n) bytes)) p.of) one p.stands in
    let second : StandsFor (bits_of (take (2 * words_at bytes) bytes)) q.of = subst (λ (n : ℕ). StandsFor (bits_of (take (2 * n) bytes)) q.of) two q.stands in
    p.reading.head ∙ ((one_record (bits_of (take (2 * words_at bytes) bytes)) p.of q.of first second).head ∙ sym q.reading.head)

pub one_kind : (bytes : List ℕ) (f g : FrameCodes) → AreBytes bytes → IsReading bytes f → IsReading bytes g → kind_of f ≡ kind_of g
one_kind bytes f g small p q = ap (λ (h : Head). record { fscod = h.fscod; acmod = h.acmod; lfe = h.lfeon }) (one_head bytes f g small p q)

-- ---- its codes

below_three : (v : ℕ) → below 3 Fscod v ≡ None → v ≤ 2
below_three v e = elim (cases_lt v 3) [ inl lt ↦ omega (arith, lt) | inr le ↦ let g = rw (le-ltb v 3 le) at e in absurd cc ]

below_last : (v : ℕ) → below 38 Frmsizecod v ≡ None → v ≤ 37
below_last v e = elim (cases_lt v 38) [ inl lt ↦ omega (arith, lt) | inr le ↦ let g = rw (le-ltb v 38 le) at e in absurd cc ]

lawful_codes : (h : Head) (addbsi : List Bool) → whole_head.Lawful (h, addbsi) → (h.fscod ≤ 2) × (h.frmsizecod ≤ 37)
unfolding whole_head head_fields layout layout_rows shaped pair field
lawful_codes h addbsi l = (below_three h.fscod l.0.0.1.1.0.1, below_last h.frmsizecod l.0.0.1.1.1.0.1)

pub codes_small : (bytes : List ℕ) (g : FrameCodes) → IsReading bytes g → (g.head.fscod ≤ 2) × (g.head.frmsizecod ≤ 37)
codes_small bytes g r = subst (λ (h : Head). (h.fscod ≤ 2) × (h.frmsizecod ≤ 37)) (sym r.reading.head) (lawful_codes r.of.head r.of.addbsi r.stands.is_record.head)
