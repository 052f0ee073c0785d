-- There is one plain frame of given exponents.
use Rattle.std.proofs.Common.{◌≡◌, ◌≢◌, inl, inr, ℕ, suc, ◌+◌, ◌-◌, ◌*◌, ◌/◌, ◌^◌, ◌<◌, Bool, List, [], ◌∷◌, ◌++◌, length, take, drop, refl, ap, sym, ◌∙◌, subst, append_assoc, arith, length-append}
use Rattle.ac_bits.specs.Bits.{bits, bits_of}
use Rattle.ac_bits.proofs.Laws.{length-bits, length-bits_of, bits_same}
use Rattle.ac_crc.specs.Remainder.{IsRemainder}
use Rattle.ac_crc.proofs.Remainders.{trails, one_trailing, one_leading, last_bit_turned}
use Rattle.ac_frame.specs.Rows.{spell}
use Rattle.ac_base.specs.Sizes.{front_room}
use Rattle.ac_record.specs.CrcParts.{front_part, all_part}
use Rattle.ac_record.specs.Laws.{AreBytes}
use Rattle.ac_frame.specs.Plain.{plain_rows, IsPlain}
use Rattle.ac_frame.proofs.Frames.{Made, Sized, body, before, body_split, bits_of-take, bits_of-drop, front_is, all_of, all_rows, length-body}

abbrev pub Plain : Made → List ℕ → Type 0
Plain a frame = IsPlain a.fscod a.frmsizecod a.words a.bw a.first a.groups frame

-- bytes with the same bits are the same
pub same_bytes : (f g : List ℕ) → AreBytes f → AreBytes g → bits_of f ≡ bits_of g → f ≡ g
same_bytes [] [] p q e = refl
same_bytes [] (y ∷ g) p q e = absurd (omega (arith, ap length e, length-bits_of (y ∷ g)))
same_bytes (x ∷ f) [] p q e = absurd (omega (arith, ap length e, length-bits_of (x ∷ f)))
same_bytes (x ∷ f) (y ∷ g) p q e =
    let hx : x < 2 ^ 8 = p 0 (omega arith) in
    let hy : y < 2 ^ 8 = q 0 (omega arith) in
    let both = bits_same x 8 y (bits_of f) (bits_of g) hx hy e in
    let rest = same_bytes f g (λ k h. p (suc k) (omega arith)) (λ k h. q (suc k) (omega arith)) both.1 in
    ap (λ z. z ∷ f) both.0 ∙ ap (λ l. y ∷ l) rest

-- one word behind a list leaves no remainder
one_last : (l : List Bool) (u w : ℕ) → u < 2 ^ 16 → w < 2 ^ 16 → IsRemainder (l ++ bits u 16) 0 → IsRemainder (l ++ bits w 16) 0 → u ≡ w
one_last l u w hu hw p q = one_trailing l w u (trails l w hw q) hu p

grouped : (a b c : List Bool) → IsRemainder (a ++ (b ++ c)) 0 → IsRemainder ((a ++ b) ++ c) 0
grouped a b c r = subst (λ (l : List Bool). IsRemainder l 0) (sym (append_assoc a b c)) r

all_here : (a : Made) (frame : List ℕ) (p : Plain a frame) → IsRemainder (bits p.crc1 16 ++ (spell (body a p.crcrsv) ++ bits p.crc2 16)) 0
all_here a frame p = subst (λ (l : List Bool). IsRemainder l 0) (ap all_part p.whole ∙ all_of a p.crc1 p.crcrsv p.crc2) p.all

front_here : (a : Made) (frame : List ℕ) (m : ℕ) (p : Plain a frame) → Sized a → front_room a.words ≡ 32 + m → IsRemainder (bits p.crc1 16 ++ take m (spell (body a 0))) 0
front_here a frame m p s e = subst (λ (l : List Bool). IsRemainder l 0) (ap (front_part a.words) p.whole ∙ front_is a p.crc1 p.crcrsv p.crc2 m s e) p.front

pub same_crc1 : (a : Made) (f g : List ℕ) (p : Plain a f) (q : Plain a g) → Sized a → p.crc1 ≡ q.crc1
same_crc1 a f g p q s =
    let m = front_room a.words - 32 in
    let e : front_room a.words ≡ 32 + m = omega (arith, s.least) in
    one_leading (take m (spell (body a 0))) p.crc1 q.crc1 p.fit.0 q.fit.0 (front_here a f m p s e) (front_here a g m q s e)

all_at : (a : Made) (frame : List ℕ) (p : Plain a frame) (crc1 r : ℕ) → p.crc1 ≡ crc1 → p.crcrsv ≡ r → IsRemainder ((bits crc1 16 ++ spell (body a r)) ++ bits p.crc2 16) 0
all_at a frame p crc1 r e f =
    let one = subst (λ (n : ℕ). IsRemainder (bits n 16 ++ (spell (body a p.crcrsv) ++ bits p.crc2 16)) 0) e (all_here a frame p) in
    let two = subst (λ (n : ℕ). IsRemainder (bits crc1 16 ++ (spell (body a n) ++ bits p.crc2 16)) 0) f one in
    grouped (bits crc1 16) (spell (body a r)) (bits p.crc2 16) two

sync_at : (a : Made) (crc1 crc1' : ℕ) → crc1 ≡ crc1' → IsRemainder (all_part (spell (plain_rows a.fscod a.frmsizecod a.words a.bw a.first a.groups crc1 0 0x0B77))) 0 → IsRemainder ((bits crc1' 16 ++ spell (body a 0)) ++ bits 0x0B77 16) 0
sync_at a crc1 crc1' e z =
    let one = subst (λ (l : List Bool). IsRemainder l 0) (all_of a crc1 0 0x0B77) z in
    let two = subst (λ (n : ℕ). IsRemainder (bits n 16 ++ (spell (body a 0) ++ bits 0x0B77 16)) 0) e one in
    grouped (bits crc1' 16) (spell (body a 0)) (bits 0x0B77 16) two

sync_fits : 0x0B77 < 2 ^ 16
sync_fits = omega arith

same_last : (a : Made) (f g : List ℕ) (p : Plain a f) (q : Plain a g) → Sized a → (p.crcrsv ≡ q.crcrsv) × (p.crc2 ≡ q.crc2)
same_last a f g p q s =
    let e = same_crc1 a f g p q s in
    let Same : Type 0 = (p.crcrsv ≡ q.crcrsv) × (p.crc2 ≡ q.crc2) in
    elim p.reserved as (λ _. Same) [
      | inl x ↦ elim q.reserved as (λ _. Same) [
        | inl y ↦ (x.0 ∙ sym y.0, one_last (bits q.crc1 16 ++ spell (body a 0)) p.crc2 q.crc2 p.fit.1 q.fit.1 (all_at a f p q.crc1 0 e x.0) (all_at a g q q.crc1 0 refl y.0))
        | inr y ↦ absurd (x.1 (one_last (bits q.crc1 16 ++ spell (body a 0)) p.crc2 0x0B77 p.fit.1 sync_fits (all_at a f p q.crc1 0 e x.0) (sync_at a q.crc1 q.crc1 refl y.1)))
      ]
      | inr x ↦ elim q.reserved as (λ _. Same) [
        | inl y ↦ absurd (y.1 (one_last (bits q.crc1 16 ++ spell (body a 0)) q.crc2 0x0B77 q.fit.1 sync_fits (all_at a g q q.crc1 0 refl y.0) (sync_at a p.crc1 q.crc1 e x.1)))
        | inr y ↦ (x.0 ∙ sym y.0, one_last (bits q.crc1 16 ++ spell (body a 1)) p.crc2 q.crc2 p.fit.1 q.fit.1 (all_at a f p q.crc1 1 e x.0) (all_at a g q q.crc1 1 refl y.0))
      ]
    ]

pub one_frame : (a : Made) (f g : List ℕ) → Sized a → AreBytes f → AreBytes g → Plain a f → Plain a g → f ≡ g
one_frame a f g s bf bg p q =
    let e = same_crc1 a f g p q s in
    let l = same_last a f g p q s in
    let rows = λ (c r d : ℕ). spell (plain_rows a.fscod a.frmsizecod a.words a.bw a.first a.groups c r d) in
    let same : rows p.crc1 p.crcrsv p.crc2 ≡ rows q.crc1 q.crcrsv q.crc2 = ap (λ c. rows c p.crcrsv p.crc2) e ∙ (ap (λ r. rows q.crc1 r p.crc2) l.0 ∙ ap (λ d. rows q.crc1 q.crcrsv d) l.1) in
    same_bytes f g bf bg (p.whole ∙ (same ∙ sym q.whole))

-- the last bit before crc2 turns the syncword into another word
turned : (a : Made) (crc1 crc2 : ℕ) → crc2 < 2 ^ 16 → IsRemainder ((bits crc1 16 ++ spell (body a 0)) ++ bits 0x0B77 16) 0 → IsRemainder ((bits crc1 16 ++ spell (body a 1)) ++ bits crc2 16) 0 → crc2 ≡ 0x8B72
turned a crc1 crc2 h z w =
    let front = bits crc1 16 ++ before a in
    let split = λ (r : ℕ). ap (λ l. bits crc1 16 ++ l) (body_split a r) ∙ sym (append_assoc (bits crc1 16) (before a) (bits r 1)) in
    let low = subst (λ (l : List Bool). IsRemainder l 0x0B77) (split 0) (trails (bits crc1 16 ++ spell (body a 0)) 0x0B77 sync_fits z) in
    let high = last_bit_turned front 0x0B77 low in
    one_trailing (front ++ bits 1 1) 0x8B72 crc2 high h (subst (λ (l : List Bool). IsRemainder (l ++ bits crc2 16) 0) (split 1) w)

pub no_sync : (a : Made) (frame : List ℕ) (p : Plain a frame) → p.crc2 ≢ 0x0B77
no_sync a frame p =
    elim p.reserved as (λ _. p.crc2 ≢ 0x0B77) [
      | inl x ↦ x.1
      | inr x ↦ λ e. absurd (omega (arith, e, turned a p.crc1 p.crc2 p.fit.1 (sync_at a p.crc1 p.crc1 refl x.1) (all_at a frame p p.crc1 1 refl x.0)))
    ]

pub frame_size : (a : Made) (frame : List ℕ) → Sized a → Plain a frame → length frame ≡ 2 * a.words
frame_size a frame s p =
    let e = ap length (p.whole ∙ all_rows a p.crc1 p.crcrsv p.crc2) in
    let b = spell (body a p.crcrsv) in
    let n : length (bits 0x0B77 16 ++ (bits p.crc1 16 ++ (b ++ bits p.crc2 16))) ≡ 48 + length b =
    omega (arith, length-append (bits 0x0B77 16) (bits p.crc1 16 ++ (b ++ bits p.crc2 16)), length-append (bits p.crc1 16) (b ++ bits p.crc2 16), length-append b (bits p.crc2 16), length-bits 0x0B77 16, length-bits p.crc1 16, length-bits p.crc2 16) in
    omega (arith, e, n, length-bits_of frame, length-body a p.crcrsv s)

pub first_part : (a : Made) (frame : List ℕ) → Plain a frame → IsRemainder (bits_of (drop 2 (take (2 * (a.words / 2 + a.words / 8)) frame))) 0
first_part a frame p =
    let k = 2 * (a.words / 2 + a.words / 8) in
    let n : 8 * k ≡ front_room a.words = omega arith in
    let e : bits_of (drop 2 (take k frame)) ≡ front_part a.words (bits_of frame) =
    bits_of-drop 2 (take k frame) ∙ (ap (drop 16) (bits_of-take k frame ∙ ap (λ m. take m (bits_of frame)) n)) in
    subst (λ (l : List Bool). IsRemainder l 0) (sym e) p.front

pub both_parts : (a : Made) (frame : List ℕ) → Plain a frame → IsRemainder (bits_of (drop 2 frame)) 0
both_parts a frame p = subst (λ (l : List Bool). IsRemainder l 0) (sym (bits_of-drop 2 frame)) p.all
