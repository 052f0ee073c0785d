-- What holds of each frame.
use Rattle.std.proofs.Common.{◌≡◌, ℕ, ◌+◌, ◌*◌, ◌/◌, ◌≤◌, false, List, length, take, drop, None, if◌then◌else◌, nat_le, inl, inr, refl, ap, sym, subst, ◌∙◌, arith}
use Rattle.ac_base.specs.declared.shapes.Shape.{Shape}
use Rattle.ac_base.specs.Rates.{IsRate}
use Rattle.ac_base.specs.Shape.{full_of, coded_of}
use Rattle.ac_base.specs.Sizes.{frame_words_of, front_room}
use Rattle.ac_bits.specs.Bits.{bits_of}
use Rattle.ac_coding.specs.Values.{values_of, IsCoded}
use Rattle.ac_coding.proofs.OneFrame as coding
use Rattle.ac_coordinates.specs.declared.Coordinates.{Coordinates}
use Rattle.ac_coupling.specs.Coupling.{AreCoordinates}
use Rattle.ac_crc.specs.Remainder.{IsRemainder}
use Rattle.ac_energy.specs.Coefficients.{Coefficients}
use Rattle.ac_expo.specs.Raw.{channels}
use Rattle.ac_joint.specs.Joint.{joint_flags, joint_of}
use Rattle.ac_plan.specs.Plans.{IsMarked}
use Rattle.ac_plan.specs.declared.answer.Mark.{Mark}
use Rattle.ac_plan.specs.declared.answer.Mark.TheVariants.{Best, Bounded}
use Rattle.ac_plan.specs.declared.answer.Plan.{Plan}
use Rattle.ac_record.specs.CrcParts.{front_part, all_part}
use Rattle.ac_record.specs.Laws.{AreBytes}
use Rattle.ac_sent.specs.Packed.{sent_record, IsPacked}
use Rattle.ac_sent.specs.Values.{Quantised}
use Rattle.ac_words.specs.declared.meaning.Options.{Options}
use Rattle.ac_enc.specs.Frame.{Places, IsShapeOf, IsFrame, coefficients}
use Rattle.ac_enc.specs.Layout.{Layout, range_of, range_by}
use Rattle.ac_enc.proofs.Bits.{bits_of-take, bits_of-drop}
use Rattle.ac_enc.proofs.Coordinates.{one_coordinates}
use Rattle.ac_enc.proofs.OneShape.{of_for, one_for, no_range}

pub words_are : (o : Options) (l : Layout) (i : ℕ) (x : Places) (plan : Plan) (frame : List ℕ) → (p : IsFrame o l i x plan frame) → p.shape.words ≡ frame_words_of o.rate l.fscod i
words_are o l i x plan frame p = (of_for o l (frame_words_of o.rate l.fscod i) (coefficients x) p.shape p.shape_is).size

pub size : (o : Options) (l : Layout) (i : ℕ) (x : Places) (plan : Plan) (frame : List ℕ) → IsRate o.rate → l.fscod ≤ 2 → IsFrame o l i x plan frame → length frame ≡ 2 * frame_words_of o.rate l.fscod i
size o l i x plan frame is known p =
    coding.size p.shape (joint_of p.shape (coefficients x)) plan.offset plan.assign (joint_flags p.shape (coefficients x)) p.coords frame p.coded ∙ ap (λ w. 2 * w) (words_are o l i x plan frame p)

-- ---- there is one
pub one : (o : Options) (l : Layout) (i : ℕ) (x : Places) (plan : Plan) (f g : List ℕ) → IsRate o.rate → l.fscod ≤ 2 → AreBytes f → AreBytes g → IsFrame o l i x plan f → IsFrame o l i x plan g → f ≡ g
one o l i x plan f g is known bf bg p q =
    let z = coefficients x in
    let same = one_for o l (frame_words_of o.rate l.fscod i) z q.shape p.shape q.shape_is p.shape_is in
    let its = subst (λ (s : Shape). IsCoded s (joint_of s z) plan.offset plan.assign (joint_flags s z) q.coords g) same q.coded in
    let coords = one_coordinates p.shape z q.coords p.coords (subst (λ (s : Shape). AreCoordinates s z q.coords) same q.coords_are) p.coords_are in
    let other = subst (λ (c : Coordinates). IsCoded p.shape (joint_of p.shape z) plan.offset plan.assign (joint_flags p.shape z) c g) coords its in
    coding.one p.shape (joint_of p.shape z) plan.offset plan.assign (joint_flags p.shape z) p.coords f g bf bg p.coded other

-- ---- the CRC parts
packed_first : (q : Quantised) (frame : List ℕ) → IsPacked q frame → IsRemainder (front_part q.shape.words (bits_of frame)) 0
unfolding sent_record
packed_first q frame p = subst (λ (w : ℕ). IsRemainder (front_part w (bits_of frame)) 0) p.size.size p.stands.front

packed_all : (q : Quantised) (frame : List ℕ) → IsPacked q frame → IsRemainder (all_part (bits_of frame)) 0
packed_all q frame p = p.stands.all

pub first_part : (o : Options) (l : Layout) (i : ℕ) (x : Places) (plan : Plan) (frame : List ℕ) → IsFrame o l i x plan frame
    → let words = frame_words_of o.rate l.fscod i in IsRemainder (bits_of (drop 2 (take (2 * (words / 2 + words / 8)) frame))) 0
unfolding values_of
first_part o l i x plan frame p =
    let words = frame_words_of o.rate l.fscod i in
    let z = coefficients x in
    let here = packed_first (values_of p.shape (joint_of p.shape z) plan.offset plan.assign (joint_flags p.shape z) p.coords) frame p.coded in
    let own = subst (λ (w : ℕ). IsRemainder (front_part w (bits_of frame)) 0) (words_are o l i x plan frame p) here in
    let many : 8 * (2 * (words / 2 + words / 8)) ≡ front_room words = omega arith in
    let bits = bits_of-drop 2 (take (2 * (words / 2 + words / 8)) frame) ∙ ap (drop 16) (bits_of-take (2 * (words / 2 + words / 8)) frame ∙ ap (λ n. take n (bits_of frame)) many) in
    subst (λ m. IsRemainder m 0) (sym bits) own

pub both_parts : (o : Options) (l : Layout) (i : ℕ) (x : Places) (plan : Plan) (frame : List ℕ) → IsFrame o l i x plan frame → IsRemainder (bits_of (drop 2 frame)) 0
both_parts o l i x plan frame p =
    let z = coefficients x in
    let here = packed_all (values_of p.shape (joint_of p.shape z) plan.offset plan.assign (joint_flags p.shape z) p.coords) frame p.coded in
    subst (λ m. IsRemainder m 0) (sym (bits_of-drop 2 frame)) here

-- ---- the mark of one channel
mark_best : (shape : Shape) (raw : List (List (List ℕ))) (nodes s : ℕ) (m : Mark) → channels shape ≡ 1 → IsMarked shape raw nodes s m → m ≡ Best
mark_best shape raw nodes s Best one h = refl
mark_best shape raw nodes s (Bounded upper) one h = let several = h.several in absurd (omega (arith, one, several))

one_channel : (o : Options) (l : Layout) (i : ℕ) (x : Coefficients) (shape : Shape) → l.acmod ≡ 1 → l.lfe ≡ false → IsShapeOf o l i x shape → channels shape ≡ 1
one_channel o l i x shape mono low (inl h) =
    let none : range_of o l ≡ None = ap (λ (n : ℕ). if nat_le 2 (full_of n) then range_by o.couple o.rate (full_of n) else None) mono in
    absurd (no_range o l h.0 none h.1.usable)
one_channel o l i x shape mono low (inr h) =
    let is = h.1 in
    let a = is.layout ∙ mono in
    let b = is.low ∙ low in
    let c = is.coupled in
    λ j. coded_of (a j) (b j) (c j)

pub mono : (o : Options) (l : Layout) (i : ℕ) (x : Places) (plan : Plan) (frame : List ℕ) → l.acmod ≡ 1 → l.lfe ≡ false → IsFrame o l i x plan frame → plan.mark ≡ Best
mono o l i x plan frame one low p =
    mark_best p.shape p.raw o.nodes plan.offset plan.mark (one_channel o l i (coefficients x) p.shape one low p.shape_is) p.lawful.marked
