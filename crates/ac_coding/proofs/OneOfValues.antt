-- There is one frame of values, whatever they are: that there is a frame says how long its parts are.
use Rattle.std.proofs.Common.{◌≡◌, ℕ, suc, ◌+◌, ◌-◌, ◌*◌, ◌^◌, ◌<◌, ◌≤◌, Bool, true, false, List, [], ◌∷◌, ◌++◌, length, take, drop, refl, ap, sym, ◌∙◌, subst, append_assoc, inl, inr, arith}
use Rattle.std.proofs.lemmas.List.{drop_at, take-append-le, length-append}
use Rattle.std.proofs.Math.Seq.{take-append-add}
use Rattle.ac_bits.specs.Bits.{bits, bits_of}
use Rattle.ac_bits.proofs.Laws.{length-bits, length-bits_of, bits_same}
use Rattle.ac_base.specs.Sizes.{front_room}
use Rattle.ac_crc.specs.Remainder.{IsRemainder}
use Rattle.ac_crc.proofs.Remainders.{trails, one_trailing, one_leading}
use Rattle.ac_record.specs.Laws.{AreBytes}
use Rattle.ac_record.specs.Records.{record_spelled, words_of}
use Rattle.ac_record.specs.CrcParts.{front_part, all_part}
use Rattle.ac_record.proofs.Leading.{head_is}
use Rattle.ac_sent.specs.Values.{Quantised}
use Rattle.ac_sent.specs.Fields.{sent_head}
use Rattle.ac_sent.specs.Packed.{sent_record, IsPacked}
use Rattle.ac_sent.proofs.SizeCodes.{one_code}
use Rattle.ac_packing.proofs.Frames.{before, middle, whole_is, all_is}

-- ---- bytes with the same bits are the same
same_bytes : (f g : List ℕ) → AreBytes f → AreBytes g → bits_of f ≡ bits_of g → f ≡ g
same_bytes [] [] p q e = refl
same_bytes [] (y ∷ g) p q e = absurd (omega (arith, ap length e, length-bits_of (y ∷ g)))
same_bytes (x ∷ f) [] p q e = absurd (omega (arith, ap length e, length-bits_of (x ∷ f)))
same_bytes (x ∷ f) (y ∷ g) p q e =
    let hx : x < 2 ^ 8 = p 0 (omega arith) in
    let hy : y < 2 ^ 8 = q 0 (omega arith) in
    let both = bits_same x 8 y (bits_of f) (bits_of g) hx hy e in
    let rest = same_bytes f g (λ k h. p (suc k) (omega arith)) (λ k h. q (suc k) (omega arith)) both.1 in
    ap (λ z. z ∷ f) both.0 ∙ ap (λ l. y ∷ l) rest

-- ---- what a packed frame says of its words
fits_of : (q : Quantised) (f : List ℕ) (p : IsPacked q f) → (p.crc1 < 2 ^ 16) × (p.crc2 < 2 ^ 16)
unfolding sent_record
fits_of q f p = ((head_is _ _ p.stands.is_record.head).crc1_fits, p.stands.is_record.word)

long_of : (q : Quantised) (f : List ℕ) (p : IsPacked q f) → length (before q p.frmsizecod) + 49 ≡ 16 * q.shape.words
unfolding sent_record
long_of q f p =
    let b = before q p.frmsizecod in
    let m = middle q p.frmsizecod p.crcrsv in
    let whole = ap length (p.stands.whole ∙ whole_is q p.frmsizecod p.crc1 p.crcrsv p.crc2) in
    omega (arith, p.stands.size, p.size.size, whole, length-append (bits 0x0B77 16) (bits p.crc1 16 ++ (m ++ bits p.crc2 16)), length-append (bits p.crc1 16) (m ++ bits p.crc2 16), length-append m (bits p.crc2 16), length-append b (p.crcrsv ∷ []), length-bits 0x0B77 16, length-bits p.crc1 16, length-bits p.crc2 16)

front_at : (s c b d : List Bool) (x : Bool) (n m : ℕ) → length s ≡ 16 → length c ≡ 16 → n ≡ 32 + m → m ≤ length b → drop 16 (take n (s ++ (c ++ ((b ++ (x ∷ [])) ++ d)))) ≡ c ++ take m b
front_at s c b d x n m es ec en h =
    let one : n ≡ length s + (16 + m) = omega arith in
    let two : 16 + m ≡ length c + m = omega arith in
    let more : m ≤ length (b ++ (x ∷ [])) = omega (arith, h, length-append b (x ∷ [])) in
    let l = (b ++ (x ∷ [])) ++ d in
    ap (λ k. drop 16 (take k (s ++ (c ++ l)))) one
    ∙ (ap (drop 16) (take-append-add s (c ++ l) (16 + m))
    ∙ (drop_at s (take (16 + m) (c ++ l)) 16 es
    ∙ (ap (λ k. take k (c ++ l)) two
    ∙ (take-append-add c l m
    ∙ ap (λ z. c ++ z) (take-append-le m (b ++ (x ∷ [])) d more ∙ take-append-le m b (x ∷ []) h)))))

front_here : (q : Quantised) (f : List ℕ) (m : ℕ) (p : IsPacked q f) → front_room q.shape.words ≡ 32 + m → IsRemainder (bits p.crc1 16 ++ take m (before q p.frmsizecod)) 0
unfolding sent_record
front_here q f m p e =
    let words : words_of (sent_head q.shape p.frmsizecod p.crc1) ≡ q.shape.words = p.size.size in
    let front = subst (λ (n : ℕ). IsRemainder (front_part n (bits_of f)) 0) words p.stands.front in
    let room : m ≤ length (before q p.frmsizecod) = omega (arith, e, long_of q f p, q.shape.least_size) in
    subst (λ (l : List Bool). IsRemainder l 0)
    (ap (front_part q.shape.words) (p.stands.whole ∙ whole_is q p.frmsizecod p.crc1 p.crcrsv p.crc2)
    ∙ front_at (bits 0x0B77 16) (bits p.crc1 16) (before q p.frmsizecod) (bits p.crc2 16) p.crcrsv (front_room q.shape.words) m (length-bits 0x0B77 16) (length-bits p.crc1 16) e room)
    front

same_crc1 : (q : Quantised) (f g : List ℕ) (p : IsPacked q f) (r : IsPacked q g) → p.frmsizecod ≡ r.frmsizecod → p.crc1 ≡ r.crc1
same_crc1 q f g p r code =
    let m = front_room q.shape.words - 32 in
    let e : front_room q.shape.words ≡ 32 + m = omega (arith, q.shape.least_size) in
    let here = subst (λ (k : ℕ). IsRemainder (bits p.crc1 16 ++ take m (before q k)) 0) code (front_here q f m p e) in
    one_leading (take m (before q r.frmsizecod)) p.crc1 r.crc1 (fits_of q f p).0 (fits_of q g r).0 here (front_here q g m r e)

-- ---- the last word
abbrev around : Quantised → ℕ → ℕ → Bool → List Bool
around q code crc1 v = bits crc1 16 ++ middle q code v

all_at : (q : Quantised) (f : List ℕ) (p : IsPacked q f) (code crc1 : ℕ) (v : Bool) → p.frmsizecod ≡ code → p.crc1 ≡ crc1 → p.crcrsv ≡ v → IsRemainder (around q code crc1 v ++ bits p.crc2 16) 0
all_at q f p code crc1 v e h s =
    let whole = subst (λ (l : List Bool). IsRemainder l 0) (ap all_part p.stands.whole ∙ (all_is q p.frmsizecod p.crc1 p.crcrsv p.crc2 ∙ sym (append_assoc (bits p.crc1 16) (middle q p.frmsizecod p.crcrsv) (bits p.crc2 16)))) p.stands.all in
    subst (λ (k : ℕ). IsRemainder (around q k crc1 v ++ bits p.crc2 16) 0) e
    (subst (λ (c : ℕ). IsRemainder (around q p.frmsizecod c v ++ bits p.crc2 16) 0) h
    (subst (λ (w : Bool). IsRemainder (around q p.frmsizecod p.crc1 w ++ bits p.crc2 16) 0) s whole))

sync_at : (q : Quantised) (a c code crc1 : ℕ) → a ≡ code → c ≡ crc1 → IsRemainder (all_part (record_spelled (sent_record q a c false 0x0B77))) 0 → IsRemainder (around q code crc1 false ++ bits 0x0B77 16) 0
sync_at q a c code crc1 e h z =
    subst (λ (k : ℕ). IsRemainder (around q k crc1 false ++ bits 0x0B77 16) 0) e
    (subst (λ (d : ℕ). IsRemainder (around q a d false ++ bits 0x0B77 16) 0) h
    (subst (λ (l : List Bool). IsRemainder l 0) (all_is q a c false 0x0B77 ∙ sym (append_assoc (bits c 16) (middle q a false) (bits 0x0B77 16))) z))

one_last : (l : List Bool) (u w : ℕ) → u < 2 ^ 16 → w < 2 ^ 16 → IsRemainder (l ++ bits u 16) 0 → IsRemainder (l ++ bits w 16) 0 → u ≡ w
one_last l u w f g a b = one_trailing l w u (trails l w g b) f a

same_last : (q : Quantised) (f g : List ℕ) (p : IsPacked q f) (r : IsPacked q g) → p.frmsizecod ≡ r.frmsizecod → p.crc1 ≡ r.crc1 → (p.crcrsv ≡ r.crcrsv) × (p.crc2 ≡ r.crc2)
same_last q f g p r code crc1 =
    let Same : Type 0 = (p.crcrsv ≡ r.crcrsv) × (p.crc2 ≡ r.crc2) in
    let k = r.frmsizecod in
    let c = r.crc1 in
    let sync : 0x0B77 < 2 ^ 16 = omega arith in
    let mine : (v : Bool) → p.crcrsv ≡ v → IsRemainder (around q k c v ++ bits p.crc2 16) 0 = λ v s. all_at q f p k c v code crc1 s in
    let other : (v : Bool) → r.crcrsv ≡ v → IsRemainder (around q k c v ++ bits r.crc2 16) 0 = λ v s. all_at q g r k c v refl refl s in
    elim p.reserved as (λ _. Same) [
      | inl x ↦ elim r.reserved as (λ _. Same) [
        | inl y ↦ (x.0 ∙ sym y.0, one_last (around q k c false) p.crc2 r.crc2 (fits_of q f p).1 (fits_of q g r).1 (mine false x.0) (other false y.0))
        | inr y ↦ absurd (x.1 (one_last (around q k c false) p.crc2 0x0B77 (fits_of q f p).1 sync (mine false x.0) (sync_at q k c k c refl refl y.1)))
      ]
      | inr x ↦ elim r.reserved as (λ _. Same) [
        | inl y ↦ absurd (y.1 (one_last (around q k c false) r.crc2 0x0B77 (fits_of q g r).1 sync (other false y.0) (sync_at q p.frmsizecod p.crc1 k c code crc1 x.1)))
        | inr y ↦ (x.0 ∙ sym y.0, one_last (around q k c true) p.crc2 r.crc2 (fits_of q f p).1 (fits_of q g r).1 (mine true x.0) (other true y.0))
      ]
    ]

-- ---- one frame
pub one_of_values : (q : Quantised) (f g : List ℕ) → AreBytes f → AreBytes g → IsPacked q f → IsPacked q g → f ≡ g
one_of_values q f g bf bg p r =
    let code = one_code q.shape.fscod q.shape.words p.frmsizecod r.frmsizecod q.shape.sampling p.size r.size in
    let crc1 = same_crc1 q f g p r code in
    let last = same_last q f g p r code crc1 in
    let bits_are = λ (k c : ℕ) (v : Bool) (d : ℕ). record_spelled (sent_record q k c v d) in
    let whole : bits_are p.frmsizecod p.crc1 p.crcrsv p.crc2 ≡ bits_are r.frmsizecod r.crc1 r.crcrsv r.crc2 =
    ap (λ k. bits_are k p.crc1 p.crcrsv p.crc2) code ∙ (ap (λ c. bits_are r.frmsizecod c p.crcrsv p.crc2) crc1 ∙ (ap (λ v. bits_are r.frmsizecod r.crc1 v p.crc2) last.0 ∙ ap (λ d. bits_are r.frmsizecod r.crc1 r.crcrsv d) last.1)) in
    same_bytes f g bf bg (p.stands.whole ∙ (whole ∙ sym r.stands.whole))
