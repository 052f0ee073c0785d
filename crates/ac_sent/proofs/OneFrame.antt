-- The values have one frame.
use Rattle.std.proofs.Common.{◌≡◌, ◌≢◌, ◌⊎◌, ℕ, ◌-◌, ◌<◌, ◌^◌, Bool, true, false, List, [], ◌∷◌, ◌++◌, take, refl, ap, ap₂, sym, subst, ◌∙◌, inl, inr, arith}
use Rattle.ac_bits.specs.Bits.{bits}
use Rattle.ac_base.specs.Sizes.{front_room}
use Rattle.ac_crc.specs.Remainder.{IsRemainder}
use Rattle.ac_crc.proofs.Remainders.{trails, one_trailing, one_leading}
use Rattle.ac_record.specs.Records.{record_spelled, IsRecord}
use Rattle.ac_record.specs.CrcParts.{front_part, all_part}
use Rattle.ac_record.proofs.Leading.{head_is}
use Rattle.ac_sent.specs.Values.{Quantised}
use Rattle.ac_sent.specs.Asked.{IsQuantised}
use Rattle.ac_sent.specs.Fields.{sent_head}
use Rattle.ac_sent.specs.Laws.{OneFrame}
use Rattle.ac_sent.specs.Packed.{sent_record, IsPacked}
use Rattle.ac_sent.proofs.Bodies.{sent_body, words_are, sent_front, sent_all}
use Rattle.ac_sent.proofs.SizeCodes.{one_code}

-- crc1, crcrsv and crc2 around a body that begins with these bits
abbrev before_crc2 : List Bool → ℕ → Bool → List Bool
before_crc2 body crc1 crcrsv = bits crc1 16 ++ (body ++ crcrsv ∷ [])

record AreWords (front body : List Bool) (crc1 : ℕ) (crcrsv : Bool) (crc2 : ℕ) : Type 0 where
  first_fits : crc1 < 2 ^ 16
  last_fits : crc2 < 2 ^ 16
  first : IsRemainder (bits crc1 16 ++ front) 0
  last : IsRemainder (before_crc2 body crc1 crcrsv ++ bits crc2 16) 0
  reserved : ((crcrsv ≡ false) × (crc2 ≢ 0x0B77)) ⊎ ((crcrsv ≡ true) × IsRemainder (before_crc2 body crc1 false ++ bits 0x0B77 16) 0)

same_last : (l : List Bool) (u w : ℕ) → u < 2 ^ 16 → w < 2 ^ 16 → IsRemainder (l ++ bits u 16) 0 → IsRemainder (l ++ bits w 16) 0 → u ≡ w
same_last l u w f g a b = one_trailing l w u (trails l w g b) f a

one_words : (front body : List Bool) (c d : ℕ) (v w : Bool) (m n : ℕ) → AreWords front body c v m → AreWords front body d w n → c ≡ d → (v ≡ w) × (m ≡ n)
one_words front body c d false false m n a b e =
    let mine = subst (λ (x : ℕ). IsRemainder (before_crc2 body x false ++ bits m 16) 0) e a.last in
    (refl, same_last (before_crc2 body d false) m n a.last_fits b.last_fits mine b.last)
one_words front body c d true true m n a b e =
    let mine = subst (λ (x : ℕ). IsRemainder (before_crc2 body x true ++ bits m 16) 0) e a.last in
    (refl, same_last (before_crc2 body d true) m n a.last_fits b.last_fits mine b.last)
one_words front body c d false true m n a b e = absurd (elim b.reserved [
  | inl r ↦ let g : true ≡ false = r.0 in absurd cc
  | inr r ↦ elim a.reserved [
    | inl s ↦
        let mine = subst (λ (x : ℕ). IsRemainder (before_crc2 body x false ++ bits m 16) 0) e a.last in
        s.1 (same_last (before_crc2 body d false) m 0x0B77 a.last_fits (omega arith) mine r.1)
    | inr s ↦ let g : false ≡ true = s.0 in absurd cc
  ]
])
one_words front body c d true false m n a b e = absurd (elim a.reserved [
  | inl r ↦ let g : true ≡ false = r.0 in absurd cc
  | inr r ↦ elim b.reserved [
    | inl s ↦
        let mine = subst (λ (x : ℕ). IsRemainder (before_crc2 body x false ++ bits 0x0B77 16) 0) e r.1 in
        s.1 (same_last (before_crc2 body d false) n 0x0B77 b.last_fits (omega arith) b.last mine)
    | inr s ↦ let g : false ≡ true = s.0 in absurd cc
  ]
])

-- ---- of a packed frame
abbrev front_body : Quantised → ℕ → List Bool
front_body q code = take (front_room q.shape.words - 32) (sent_body q code)

fits_of : (q : Quantised) (code crc1 : ℕ) (crcrsv : Bool) (crc2 : ℕ) → IsRecord (sent_record q code crc1 crcrsv crc2) → (crc1 < 2 ^ 16) × (crc2 < 2 ^ 16)
unfolding sent_record
fits_of q code crc1 crcrsv crc2 is = ((head_is (sent_head q.shape code crc1) [] is.head).crc1_fits, is.word)

words_packed : (q : Quantised) (frame : List ℕ) → IsQuantised q → (p : IsPacked q frame) → AreWords (front_body q p.frmsizecod) (sent_body q p.frmsizecod) p.crc1 p.crcrsv p.crc2
words_packed q frame is p =
    let code = p.frmsizecod in
    let fits = fits_of q code p.crc1 p.crcrsv p.crc2 p.stands.is_record in
    let P : List Bool → Type 0 = λ l. IsRemainder l 0 in
    record {
      first_fits = fits.0;
      last_fits = fits.1;
      first = subst P (ap₂ front_part (words_are q code p.crc1 p.crcrsv p.crc2 p.size) p.stands.whole ∙ sent_front q code p.crc1 p.crcrsv p.crc2 is p.size) p.stands.front;
      last = subst P (ap all_part p.stands.whole ∙ sent_all q code p.crc1 p.crcrsv p.crc2) p.stands.all;
      reserved = elim p.reserved [
        | inl r ↦ inl r
        | inr r ↦ inr (r.0, subst P (sent_all q code p.crc1 false 0x0B77) r.1)
      ];
    }

four : (q : Quantised) (a b c d : ℕ) (v w : Bool) (m n : ℕ) → a ≡ b → c ≡ d → v ≡ w → m ≡ n → record_spelled (sent_record q a c v m) ≡ record_spelled (sent_record q b d w n)
four q a b c d v w m n e f g h =
    ap (λ (x : ℕ). record_spelled (sent_record q x c v m)) e
    ∙ (ap (λ (x : ℕ). record_spelled (sent_record q b x v m)) f
    ∙ (ap (λ (x : Bool). record_spelled (sent_record q b d x m)) g ∙ ap (λ (x : ℕ). record_spelled (sent_record q b d w x)) h))

pub one_frame : OneFrame
one_frame q x y is p r =
    let code = one_code q.shape.fscod q.shape.words p.frmsizecod r.frmsizecod q.shape.sampling p.size r.size in
    let a = subst (λ (k : ℕ). AreWords (front_body q k) (sent_body q k) p.crc1 p.crcrsv p.crc2) code (words_packed q x is p) in
    let b = words_packed q y is r in
    let first = one_leading (front_body q r.frmsizecod) p.crc1 r.crc1 a.first_fits b.first_fits a.first b.first in
    let rest = one_words (front_body q r.frmsizecod) (sent_body q r.frmsizecod) p.crc1 r.crc1 p.crcrsv r.crcrsv p.crc2 r.crc2 a b first in
    p.stands.whole ∙ (four q p.frmsizecod r.frmsizecod p.crc1 r.crc1 p.crcrsv r.crcrsv p.crc2 r.crc2 code first rest.0 rest.1 ∙ sym r.stands.whole)
