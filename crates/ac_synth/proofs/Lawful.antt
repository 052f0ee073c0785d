-- A lawful frame has no fault, and what is read of it has the kind of its layout.
use Rattle.std.proofs.Common.{◌≡◌, ℕ, ◌*◌, Bool, List, [], ◌++◌, append_assoc, length, take, drop, ap, sym, ◌∙◌, refl, inl, inr, arith}
use Rattle.std.proofs.lemmas.List.{take-append-drop}
use Rattle.ac_base.specs.declared.shapes.Shape.{Shape}
use Rattle.ac_bits.specs.Bits.{bits_of}
use Rattle.ac_bits.proofs.Laws.{bits_of-append}
use Rattle.ac_codec.proofs.Sound.{one_value}
use Rattle.ac_rows.specs.declared.head.Head.{Head}
use Rattle.ac_rows.specs.HeadRows.{whole_head}
use Rattle.ac_rows.proofs.HeadSound.{whole_head_sound}
use Rattle.ac_record.specs.declared.codes.FrameFault.{FrameFault}
use Rattle.ac_record.specs.Faults.{IsFault}
use Rattle.ac_record.specs.Frames.{FrameCodes}
use Rattle.ac_record.specs.Laws.{AreBytes}
use Rattle.ac_record.specs.Readings.{IsReading}
use Rattle.ac_record.specs.Records.{Record, blocks_spelled, tail_spelled, record_spelled, words_of, StandsFor}
use Rattle.ac_plan.specs.declared.answer.Plan.{Plan}
use Rattle.ac_sent.specs.Fields.{sent_head}
use Rattle.ac_sent.specs.Packed.{sent_record, IsPacked}
use Rattle.ac_sent.specs.Values.{Quantised}
use Rattle.ac_coding.specs.Values.{values_of}
use Rattle.ac_enc.specs.Frame.{Places, IsFrame, IsShapeOf, coefficients}
use Rattle.ac_enc.specs.Layout.{Layout}
use Rattle.ac_words.specs.declared.meaning.Options.{Options}
use Rattle.ac_synth.proofs.Whole.{size_of, no_fault}

-- ---- the head that was sent

sent_front : (q : Quantised) (code crc1 : ℕ) (crcrsv : Bool) (crc2 : ℕ) → (sent_record q code crc1 crcrsv crc2).head ≡ sent_head q.shape code crc1
unfolding sent_record
sent_front q code crc1 crcrsv crc2 = refl

-- a packed frame has the bytes of its shape's words
packed_size : (q : Quantised) (frame : List ℕ) → IsPacked q frame → length frame ≡ 2 * q.shape.words
packed_size q frame p =
    let head = sent_front q p.frmsizecod p.crc1 p.crcrsv p.crc2 in
    size_of frame (sent_record q p.frmsizecod p.crc1 p.crcrsv p.crc2) p.stands
    ∙ (ap (λ (h : Head). 2 * words_of h) head ∙ ap (λ (n : ℕ). 2 * n) p.size.size)

packed_whole : (q : Quantised) (frame : List ℕ) (fault : FrameFault) → AreBytes frame → IsPacked q frame → IsFault frame fault → ⊥
packed_whole q frame fault are p is =
    let size = packed_size q frame p in
    let least = q.shape.least_size in
    no_fault frame (sent_record q p.frmsizecod p.crc1 p.crcrsv p.crc2) fault are (omega (arith, size, least)) p.stands is

pub whole : (o : Options) (l : Layout) (i : ℕ) (x : Places) (plan : Plan) (frame : List ℕ) (fault : FrameFault) → AreBytes frame → IsFrame o l i x plan frame → IsFault frame fault → ⊥
whole o l i x plan frame fault are f is = packed_whole _ frame fault are f.coded is

-- ---- what is read

front_of : (r : Record) → record_spelled r ≡ whole_head.spell (r.head, r.addbsi) ++ (blocks_spelled r.head [] r.blocks ++ (r.aux ++ tail_spelled r))
unfolding record_spelled
front_of r = refl

-- both begin the same bytes, so that their heads are one
same_head : (frame : List ℕ) (n : ℕ) (r s : Record) → StandsFor (bits_of (take n frame)) r → StandsFor (bits_of frame) s → r.head ≡ s.head
same_head frame n r s a b =
    let x = blocks_spelled r.head [] r.blocks ++ (r.aux ++ tail_spelled r) in
    let y = blocks_spelled s.head [] s.blocks ++ (s.aux ++ tail_spelled s) in
    let whole : bits_of frame ≡ bits_of (take n frame) ++ bits_of (drop n frame) = sym (ap bits_of (take-append-drop n frame)) ∙ bits_of-append (take n frame) (drop n frame) in
    let left : whole_head.spell (r.head, r.addbsi) ++ (x ++ bits_of (drop n frame)) ≡ bits_of frame =
    sym (append_assoc (whole_head.spell (r.head, r.addbsi)) x (bits_of (drop n frame))) ∙ (ap (λ l. l ++ bits_of (drop n frame)) (sym (a.whole ∙ front_of r)) ∙ sym whole) in
    let h = one_value whole_head whole_head_sound (r.head, r.addbsi) (s.head, s.addbsi) (x ++ bits_of (drop n frame)) y a.is_record.head b.is_record.head (left ∙ (b.whole ∙ front_of s)) in
    ap (λ (z : Head × List Bool). z.0) h.0

packed_head : (q : Quantised) (frame : List ℕ) (g : FrameCodes) → (p : IsPacked q frame) → IsReading frame g → g.head ≡ sent_head q.shape p.frmsizecod p.crc1
packed_head q frame g p r =
    r.reading.head
    ∙ (same_head frame (2 * words_of r.of.head) r.of (sent_record q p.frmsizecod p.crc1 p.crcrsv p.crc2) r.stands p.stands
    ∙ sent_front q p.frmsizecod p.crc1 p.crcrsv p.crc2)

-- the shape has the kind of the layout
record HasKind (f a : ℕ) (t : Bool) (l : Layout) : Type 0 where
  fscod : f ≡ l.fscod
  acmod : a ≡ l.acmod
  lfe : t ≡ l.lfe

shape_kind : (o : Options) (l : Layout) (i : ℕ) (x : Places) (shape : Shape) → IsShapeOf o l i (coefficients x) shape → HasKind shape.fscod shape.acmod shape.lfe l
shape_kind o l i x shape (inl (range, c, p)) = record { fscod = p.sampling_rate; acmod = p.layout; lfe = p.low }
shape_kind o l i x shape (inr (none, p)) = record { fscod = p.sampling_rate; acmod = p.layout; lfe = p.low }

pub kind : (o : Options) (l : Layout) (i : ℕ) (x : Places) (plan : Plan) (frame : List ℕ) (g : FrameCodes) → IsFrame o l i x plan frame → IsReading frame g
    → (g.head.fscod ≡ l.fscod) × (g.head.acmod ≡ l.acmod) × (g.head.lfeon ≡ l.lfe)
unfolding values_of
kind o l i x plan frame g f r =
    let head = packed_head _ frame g f.coded r in
    let is = shape_kind o l i x f.shape f.shape_is in (
      ap (λ (h : Head). h.fscod) head ∙ is.fscod,
      ap (λ (h : Head). h.acmod) head ∙ is.acmod,
      ap (λ (h : Head). h.lfeon) head ∙ is.lfe,
    )
