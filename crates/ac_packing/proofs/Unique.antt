-- There is one frame of the values that it carries.
use Rattle.std.proofs.Common.{◌≡◌, ◌≢◌, inl, inr, ℕ, zero, suc, ◌+◌, ◌-◌, ◌*◌, ◌/◌, ◌^◌, ◌<◌, ◌≤◌, Bool, true, false, List, [], ◌∷◌, ◌++◌, length, take, refl, ap, sym, ◌∙◌, subst, append_assoc, arith}
use Rattle.std.specs.Prelude.{nat_lt}
use Rattle.std.proofs.lemmas.Bool.{ltb-true, cases_eq, cases_lt}
use Rattle.ac_bits.specs.Bits.{bits, bits_of}
use Rattle.ac_bits.proofs.Laws.{length-bits_of, bits_same}
use Rattle.ac_base.specs.Sizes.{code_words, front_room}
use Rattle.ac_base.proofs.Tests.{all_below-at}
use Rattle.ac_crc.specs.Remainder.{IsRemainder}
use Rattle.ac_crc.proofs.Remainders.{trails, one_trailing, one_leading, last_bit_turned}
use Rattle.ac_record.specs.Laws.{AreBytes}
use Rattle.ac_record.specs.Records.{record_spelled, words_of}
use Rattle.ac_record.specs.CrcParts.{front_part, all_part}
use Rattle.ac_record.proofs.Leading.{head_is}
use Rattle.ac_sent.specs.Values.{Quantised}
use Rattle.ac_sent.specs.Asked.{IsQuantised, IsSizeCode}
use Rattle.ac_sent.specs.Fields.{sent_head}
use Rattle.ac_sent.specs.Packed.{sent_record, IsPacked}
use Rattle.ac_packing.proofs.Frames.{before, middle, front_is, all_is}

-- ---- bytes with the same bits are the same
same_bytes : (f g : List ℕ) → AreBytes f → AreBytes g → bits_of f ≡ bits_of g → f ≡ g
same_bytes [] [] p q e = refl
same_bytes [] (y ∷ g) p q e = absurd (omega (arith, ap length e, length-bits_of (y ∷ g)))
same_bytes (x ∷ f) [] p q e = absurd (omega (arith, ap length e, length-bits_of (x ∷ f)))
same_bytes (x ∷ f) (y ∷ g) p q e =
    let hx : x < 2 ^ 8 = p 0 (omega arith) in
    let hy : y < 2 ^ 8 = q 0 (omega arith) in
    let both = bits_same x 8 y (bits_of f) (bits_of g) hx hy e in
    let rest = same_bytes f g (λ k h. p (suc k) (omega arith)) (λ k h. q (suc k) (omega arith)) both.1 in
    ap (λ z. z ∷ f) both.0 ∙ ap (λ l. y ∷ l) rest

-- ---- what a packed frame says of its words
head_of : (q : Quantised) (code crc1 : ℕ) (r : Bool) (crc2 : ℕ) → (sent_record q code crc1 r crc2).head ≡ sent_head q.shape code crc1
unfolding sent_record
head_of q code crc1 r crc2 = refl

crc1_fits : (q : Quantised) (f : List ℕ) (p : IsPacked q f) → p.crc1 < 2 ^ 16
unfolding sent_record
crc1_fits q f p = (head_is _ _ p.stands.is_record.head).crc1_fits

crc2_fits : (q : Quantised) (f : List ℕ) (p : IsPacked q f) → p.crc2 < 2 ^ 16
unfolding sent_record
crc2_fits q f p = p.stands.is_record.word

pub frame_size : (q : Quantised) (f : List ℕ) → IsPacked q f → length f ≡ 2 * q.shape.words
unfolding sent_record
frame_size q f p = omega (arith, p.stands.size, length-bits_of f, p.size.size)

grouped : (a b c : List Bool) → IsRemainder (a ++ (b ++ c)) 0 → IsRemainder ((a ++ b) ++ c) 0
grouped a b c r = subst (λ (l : List Bool). IsRemainder l 0) (sym (append_assoc a b c)) r

all_here : (q : Quantised) (f : List ℕ) (p : IsPacked q f) → IsRemainder ((bits p.crc1 16 ++ middle q p.frmsizecod p.crcrsv) ++ bits p.crc2 16) 0
all_here q f p =
    grouped (bits p.crc1 16) (middle q p.frmsizecod p.crcrsv) (bits p.crc2 16)
    (subst (λ (l : List Bool). IsRemainder l 0) (ap all_part p.stands.whole ∙ all_is q p.frmsizecod p.crc1 p.crcrsv p.crc2) p.stands.all)

sync_at : (q : Quantised) (code crc1 : ℕ) → IsRemainder (all_part (record_spelled (sent_record q code crc1 false 0x0B77))) 0 → IsRemainder ((bits crc1 16 ++ middle q code false) ++ bits 0x0B77 16) 0
sync_at q code crc1 z =
    grouped (bits crc1 16) (middle q code false) (bits 0x0B77 16) (subst (λ (l : List Bool). IsRemainder l 0) (all_is q code crc1 false 0x0B77) z)

sync_fits : 0x0B77 < 2 ^ 16
sync_fits = omega arith

-- the last bit before crc2 turns the syncword into another word
turned : (q : Quantised) (code crc1 crc2 : ℕ) → crc2 < 2 ^ 16 → IsRemainder ((bits crc1 16 ++ middle q code false) ++ bits 0x0B77 16) 0 → IsRemainder ((bits crc1 16 ++ middle q code true) ++ bits crc2 16) 0 → crc2 ≡ 0x8B72
unfolding bits
turned q code crc1 crc2 h z w =
    let front = bits crc1 16 ++ before q code in
    let split : (r : Bool) → bits crc1 16 ++ middle q code r ≡ front ++ (r ∷ []) = λ r. sym (append_assoc (bits crc1 16) (before q code) (r ∷ [])) in
    let low = subst (λ (l : List Bool). IsRemainder l 0x0B77) (split false) (trails (bits crc1 16 ++ middle q code false) 0x0B77 sync_fits z) in
    let high = last_bit_turned front 0x0B77 low in
    one_trailing (front ++ bits 1 1) 0x8B72 crc2 high h (subst (λ (l : List Bool). IsRemainder (l ++ bits crc2 16) 0) (split true) w)

pub no_sync : (q : Quantised) (f : List ℕ) (p : IsPacked q f) → p.crc2 ≢ 0x0B77
no_sync q f p =
    elim p.reserved as (λ _. p.crc2 ≢ 0x0B77) [
      | inl x ↦ x.1
      | inr x ↦
          λ e.
          let here = subst (λ (r : Bool). IsRemainder ((bits p.crc1 16 ++ middle q p.frmsizecod r) ++ bits p.crc2 16) 0) x.0 (all_here q f p) in
          absurd (omega (arith, e, turned q p.frmsizecod p.crc1 p.crc2 (crc2_fits q f p) (sync_at q p.frmsizecod p.crc1 x.1) here))
    ]

-- ---- one frmsizecod has so many words
rises : (w : ℕ → ℕ) (n : ℕ) → ((i : ℕ) → i < n → w i < w (suc i)) → (i j : ℕ) → i < j → j ≤ n → w i < w j
rises w n step i zero lt le = absurd (omega arith)
rises w n step i (suc j) lt le =
    let here = step j (omega (arith, le)) in
    elim (cases_eq i j) [
      | inl e ↦ omega (arith, ap w e, here)
      | inr ne ↦ omega (arith, here, rises w n step i j (omega (arith, lt, ne)) (omega (arith, le)))
    ]

one_at : (w : ℕ → ℕ) (n : ℕ) → ((i : ℕ) → i < n → w i < w (suc i)) → (i j : ℕ) → i ≤ n → j ≤ n → w i ≡ w j → i ≡ j
one_at w n step i j hi hj e =
    elim (cases_lt i j) [
      | inl lt ↦ absurd (omega (arith, e, rises w n step i j lt hj))
      | inr ge ↦
          elim (cases_lt j i) [ inl lt ↦ absurd (omega (arith, e, rises w n step j i lt hi)) | inr le ↦ omega (arith, ge, le) ]
    ]

odd_step : (i : ℕ) → i < 37 → code_words 1 i < code_words 1 (suc i)
odd_step i lt = ltb-true _ _ (all_below-at 37 (λ k. nat_lt (code_words 1 k) (code_words 1 (suc k))) refl i lt)

low_step : (i : ℕ) → i < 18 → code_words 0 (2 * i) < code_words 0 (2 * suc i)
low_step i lt = ltb-true _ _ (all_below-at 18 (λ k. nat_lt (code_words 0 (2 * k)) (code_words 0 (2 * suc k))) refl i lt)

high_step : (i : ℕ) → i < 18 → code_words 2 (2 * i) < code_words 2 (2 * suc i)
high_step i lt = ltb-true _ _ (all_below-at 18 (λ k. nat_lt (code_words 2 (2 * k)) (code_words 2 (2 * suc k))) refl i lt)

even_code : (fscod words a : ℕ) → fscod ≢ 1 → IsSizeCode fscod words a → a ≡ 2 * (a / 2)
even_code fscod words a ne is = elim is.even [ inl e ↦ absurd (ne e) | inr e ↦ omega (arith, e) ]

one_code : (fscod words a b : ℕ) → fscod ≤ 2 → IsSizeCode fscod words a → IsSizeCode fscod words b → a ≡ b
one_code zero words a b le p r =
    let x = even_code 0 words a (λ e. absurd (omega (arith, e))) p in
    let y = even_code 0 words b (λ e. absurd (omega (arith, e))) r in
    let same : code_words 0 (2 * (a / 2)) ≡ code_words 0 (2 * (b / 2)) = sym (ap (code_words 0) x) ∙ (p.size ∙ (sym r.size ∙ ap (code_words 0) y)) in
    omega (arith, x, y, one_at (λ i. code_words 0 (2 * i)) 18 low_step (a / 2) (b / 2) (omega (arith, p.known)) (omega (arith, r.known)) same)
one_code (suc zero) words a b le p r = one_at (code_words 1) 37 odd_step a b (omega (arith, p.known)) (omega (arith, r.known)) (p.size ∙ sym r.size)
one_code (suc (suc zero)) words a b le p r =
    let x = even_code 2 words a (λ e. absurd (omega (arith, e))) p in
    let y = even_code 2 words b (λ e. absurd (omega (arith, e))) r in
    let same : code_words 2 (2 * (a / 2)) ≡ code_words 2 (2 * (b / 2)) = sym (ap (code_words 2) x) ∙ (p.size ∙ (sym r.size ∙ ap (code_words 2) y)) in
    omega (arith, x, y, one_at (λ i. code_words 2 (2 * i)) 18 high_step (a / 2) (b / 2) (omega (arith, p.known)) (omega (arith, r.known)) same)
one_code (suc (suc (suc n))) words a b le p r = absurd (omega (arith, le))

-- ---- one frame
one_last : (l : List Bool) (u w : ℕ) → u < 2 ^ 16 → w < 2 ^ 16 → IsRemainder (l ++ bits u 16) 0 → IsRemainder (l ++ bits w 16) 0 → u ≡ w
one_last l u w hu hw p r = one_trailing l w u (trails l w hw r) hu p

front_here : (q : Quantised) (f : List ℕ) (m : ℕ) (p : IsPacked q f) → IsQuantised q → front_room q.shape.words ≡ 32 + m → IsRemainder (bits p.crc1 16 ++ take m (middle q p.frmsizecod false)) 0
unfolding sent_record
front_here q f m p is e =
    let words : words_of (sent_head q.shape p.frmsizecod p.crc1) ≡ q.shape.words = p.size.size in
    let front = subst (λ (n : ℕ). IsRemainder (front_part n (bits_of f)) 0) words p.stands.front in
    subst (λ (l : List Bool). IsRemainder l 0) (ap (front_part q.shape.words) p.stands.whole ∙ front_is q p.frmsizecod p.crc1 p.crcrsv p.crc2 m is p.size e) front

record IsSameFrame (q : Quantised) (f g : List ℕ) (p : IsPacked q f) (r : IsPacked q g) : Type 0 where
  code : p.frmsizecod ≡ r.frmsizecod
  crc1 : p.crc1 ≡ r.crc1

same_front : (q : Quantised) (f g : List ℕ) (p : IsPacked q f) (r : IsPacked q g) → IsQuantised q → IsSameFrame q f g p r
same_front q f g p r is =
    let code = one_code q.shape.fscod q.shape.words p.frmsizecod r.frmsizecod q.shape.sampling p.size r.size in
    let m = front_room q.shape.words - 32 in
    let e : front_room q.shape.words ≡ 32 + m = omega (arith, q.shape.least_size) in
    let here = subst (λ (k : ℕ). IsRemainder (bits p.crc1 16 ++ take m (middle q k false)) 0) code (front_here q f m p is e) in
    record { code = code; crc1 = one_leading (take m (middle q r.frmsizecod false)) p.crc1 r.crc1 (crc1_fits q f p) (crc1_fits q g r) here (front_here q g m r is e) }

all_at : (q : Quantised) (f : List ℕ) (p : IsPacked q f) (code crc1 : ℕ) (v : Bool) → p.frmsizecod ≡ code → p.crc1 ≡ crc1 → p.crcrsv ≡ v → IsRemainder ((bits crc1 16 ++ middle q code v) ++ bits p.crc2 16) 0
all_at q f p code crc1 v e h s =
    subst (λ (k : ℕ). IsRemainder ((bits crc1 16 ++ middle q k v) ++ bits p.crc2 16) 0) e
    (subst (λ (c : ℕ). IsRemainder ((bits c 16 ++ middle q p.frmsizecod v) ++ bits p.crc2 16) 0) h
    (subst (λ (w : Bool). IsRemainder ((bits p.crc1 16 ++ middle q p.frmsizecod w) ++ bits p.crc2 16) 0) s (all_here q f p)))

sync_there : (q : Quantised) (f : List ℕ) (p : IsPacked q f) (code crc1 : ℕ) → p.frmsizecod ≡ code → p.crc1 ≡ crc1
    → IsRemainder (all_part (record_spelled (sent_record q p.frmsizecod p.crc1 false 0x0B77))) 0 → IsRemainder ((bits crc1 16 ++ middle q code false) ++ bits 0x0B77 16) 0
sync_there q f p code crc1 e h z =
    subst (λ (k : ℕ). IsRemainder ((bits crc1 16 ++ middle q k false) ++ bits 0x0B77 16) 0) e
    (subst (λ (c : ℕ). IsRemainder ((bits c 16 ++ middle q p.frmsizecod false) ++ bits 0x0B77 16) 0) h (sync_at q p.frmsizecod p.crc1 z))

same_last : (q : Quantised) (f g : List ℕ) (p : IsPacked q f) (r : IsPacked q g) → IsSameFrame q f g p r → (p.crcrsv ≡ r.crcrsv) × (p.crc2 ≡ r.crc2)
same_last q f g p r same =
    let Same : Type 0 = (p.crcrsv ≡ r.crcrsv) × (p.crc2 ≡ r.crc2) in
    let k = r.frmsizecod in
    let c = r.crc1 in
    let mine : (v : Bool) → p.crcrsv ≡ v → IsRemainder ((bits c 16 ++ middle q k v) ++ bits p.crc2 16) 0 = λ v s. all_at q f p k c v same.code same.crc1 s in
    let other : (v : Bool) → r.crcrsv ≡ v → IsRemainder ((bits c 16 ++ middle q k v) ++ bits r.crc2 16) 0 = λ v s. all_at q g r k c v refl refl s in
    elim p.reserved as (λ _. Same) [
      | inl x ↦ elim r.reserved as (λ _. Same) [
        | inl y ↦ (x.0 ∙ sym y.0, one_last (bits c 16 ++ middle q k false) p.crc2 r.crc2 (crc2_fits q f p) (crc2_fits q g r) (mine false x.0) (other false y.0))
        | inr y ↦ absurd (x.1 (one_last (bits c 16 ++ middle q k false) p.crc2 0x0B77 (crc2_fits q f p) sync_fits (mine false x.0) (sync_at q k c y.1)))
      ]
      | inr x ↦ elim r.reserved as (λ _. Same) [
        | inl y ↦ absurd (y.1 (one_last (bits c 16 ++ middle q k false) r.crc2 0x0B77 (crc2_fits q g r) sync_fits (other false y.0) (sync_there q f p k c same.code same.crc1 x.1)))
        | inr y ↦ (x.0 ∙ sym y.0, one_last (bits c 16 ++ middle q k true) p.crc2 r.crc2 (crc2_fits q f p) (crc2_fits q g r) (mine true x.0) (other true y.0))
      ]
    ]

pub one_frame : (q : Quantised) (f g : List ℕ) → IsQuantised q → AreBytes f → AreBytes g → IsPacked q f → IsPacked q g → f ≡ g
one_frame q f g is bf bg p r =
    let same = same_front q f g p r is in
    let last = same_last q f g p r same in
    let bits_are = λ (k c : ℕ) (v : Bool) (d : ℕ). record_spelled (sent_record q k c v d) in
    let whole : bits_are p.frmsizecod p.crc1 p.crcrsv p.crc2 ≡ bits_are r.frmsizecod r.crc1 r.crcrsv r.crc2 =
    ap (λ k. bits_are k p.crc1 p.crcrsv p.crc2) same.code ∙ (ap (λ c. bits_are r.frmsizecod c p.crcrsv p.crc2) same.crc1 ∙ (ap (λ v. bits_are r.frmsizecod r.crc1 v p.crc2) last.0 ∙ ap (λ d. bits_are r.frmsizecod r.crc1 r.crcrsv d) last.1)) in
    same_bytes f g bf bg (p.stands.whole ∙ (whole ∙ sym r.stands.whole))
