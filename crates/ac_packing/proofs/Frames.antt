-- A frame by its pieces: syncword, crc1, what stands between the CRC words, and crc2.
use Rattle.std.proofs.Common.{◌≡◌, ◌≢◌, ◌⊎◌, ℕ, zero, suc, ◌+◌, ◌-◌, ◌*◌, ◌^◌, ◌<◌, ◌≤◌, Bool, true, false, List, [], ◌∷◌, ◌++◌, append_assoc, take, drop, length, replicate, refl, ap, ap₂, sym, subst, ◌∙◌, inl, inr, arith}
use Rattle.std.proofs.lemmas.List.{drop_at, take_all, drop-drop, take-append-le, take-take, length-append}
use Rattle.std.proofs.Math.Seq.{take-append-add}
use Rattle.std.proofs.lemmas.Slice.{between_is}
use borrow.Rule.Slice.PartMut.{mid_of}
use Rattle.ac_bits.specs.Bits.{bits, bits_of}
use Rattle.ac_bits.proofs.Laws.{length-bits, bits_of-append}
use Rattle.ac_base.specs.declared.shapes.Shape.{Shape}
use Rattle.ac_base.specs.Sizes.{front_room, front_words_of}
use Rattle.ac_codec.specs.Codec.{field, pair, shaped, free}
use Rattle.ac_crc.specs.Remainder.{IsRemainder}
use Rattle.ac_rows.specs.Blocks.{Block}
use Rattle.ac_rows.specs.HeadRows.{whole_head, head_fields, layout, layout_rows}
use Rattle.ac_rows.specs.BlockRows.{block_fields, whole_block}
use Rattle.ac_rows.specs.Filled.{listed}
use Rattle.ac_record.specs.Records.{BlockRecord, block_spelled, blocks_spelled, record_spelled, words_of}
use Rattle.ac_record.specs.CrcParts.{front_part, all_part}
use Rattle.ac_sent.specs.Values.{Quantised}
use Rattle.ac_sent.specs.Asked.{IsQuantised, IsSizeCode}
use Rattle.ac_sent.specs.Fields.{sent_head, parts_at}
use Rattle.ac_sent.specs.Packed.{sent_part, sent_record, IsPacked}
use Rattle.ac_sent.specs.Padding.{aux_bits}
use Rattle.ac_sent.proofs.SentRecord.{is_record}
use Rattle.ac_sent.proofs.Sizes.{has_size}

-- ---- the head
rest_of : (a b c r s t : List Bool) → length a ≡ 16 → length c ≡ 16 → ((a ++ (b ++ r)) ++ s) ++ t ≡ a ++ (b ++ drop 32 (((a ++ (c ++ r)) ++ s) ++ t))
rest_of a b c r s t la lc =
    let turn : (x : List Bool) → ((a ++ (x ++ r)) ++ s) ++ t ≡ a ++ (x ++ ((r ++ s) ++ t)) = λ x. simp append_assoc in
    let join : a ++ (c ++ ((r ++ s) ++ t)) ≡ (a ++ c) ++ ((r ++ s) ++ t) = sym (append_assoc a c ((r ++ s) ++ t)) in
    let long : length (a ++ c) ≡ 32 = omega (arith, length-append a c, la, lc) in
    turn b ∙ ap (λ (x : List Bool). a ++ (b ++ x)) (sym (ap (drop 32) (turn c ∙ join) ∙ drop_at (a ++ c) ((r ++ s) ++ t) 32 long))

abbrev pub head_rest : Shape → ℕ → List Bool
head_rest shape code = drop 32 (whole_head.spell (sent_head shape code 0, []))

head_pieces : (shape : Shape) (code crc1 : ℕ) → whole_head.spell (sent_head shape code crc1, []) ≡ bits 0x0B77 16 ++ (bits crc1 16 ++ head_rest shape code)
unfolding whole_head head_fields layout layout_rows pair shaped field free
head_pieces shape code crc1 = rest_of (bits 0x0B77 16) (bits crc1 16) (bits 0 16) _ _ [] (length-bits 0x0B77 16) (length-bits 0 16)

-- crc1 is in no block
block_alike : (shape : Shape) (code crc1 : ℕ) (earlier : List Block) (x : BlockRecord) → block_spelled (sent_head shape code crc1) earlier x ≡ block_spelled (sent_head shape code 0) earlier x
unfolding whole_block block_fields
block_alike shape code crc1 earlier x = refl

blocks_alike : (shape : Shape) (code crc1 : ℕ) (earlier : List Block) (xs : List BlockRecord) → blocks_spelled (sent_head shape code crc1) earlier xs ≡ blocks_spelled (sent_head shape code 0) earlier xs
unfolding blocks_spelled
blocks_alike shape code crc1 earlier [] = refl
blocks_alike shape code crc1 earlier (x ∷ xs) = ap₂ (λ a b. a ++ b) (block_alike shape code crc1 earlier x) (blocks_alike shape code crc1 (earlier ++ x.fields ∷ []) xs)

-- ---- what stands between the CRC words
abbrev pub before : Quantised → ℕ → List Bool
before q code =
    head_rest q.shape code ++ (blocks_spelled (sent_head q.shape code 0) [] (listed 6 0 (sent_part q)) ++ (replicate (aux_bits q.shape.words (parts_at q).total (parts_at q).last) false ++ (false ∷ [])))

abbrev pub middle : Quantised → ℕ → Bool → List Bool
middle q code crcrsv = before q code ++ (crcrsv ∷ [])

regroup : (a b c d e f : List Bool) (r : Bool) → (a ++ (b ++ c)) ++ (d ++ (e ++ (false ∷ r ∷ f))) ≡ a ++ (b ++ (((c ++ (d ++ (e ++ (false ∷ [])))) ++ (r ∷ [])) ++ f))
regroup a b c d e f r = simp append_assoc

pub whole_is : (q : Quantised) (code crc1 : ℕ) (crcrsv : Bool) (crc2 : ℕ) → record_spelled (sent_record q code crc1 crcrsv crc2) ≡ bits 0x0B77 16 ++ (bits crc1 16 ++ (middle q code crcrsv ++ bits crc2 16))
unfolding record_spelled sent_record
whole_is q code crc1 crcrsv crc2 =
    let d = blocks_spelled (sent_head q.shape code 0) [] (listed 6 0 (sent_part q)) in
    let e = replicate (aux_bits q.shape.words (parts_at q).total (parts_at q).last) false in
    ap₂ (λ (a b : List Bool). a ++ (b ++ (e ++ (false ∷ crcrsv ∷ bits crc2 16)))) (head_pieces q.shape code crc1) (blocks_alike q.shape code crc1 [] (listed 6 0 (sent_part q)))
    ∙ regroup (bits 0x0B77 16) (bits crc1 16) (head_rest q.shape code) d e (bits crc2 16) crcrsv

pub middle_long : (q : Quantised) (code : ℕ) (crcrsv : Bool) → IsQuantised q → IsSizeCode q.shape.fscod q.shape.words code → length (middle q code crcrsv) + 48 ≡ 16 * q.shape.words
middle_long q code crcrsv is size =
    let m = middle q code crcrsv in
    omega (arith, has_size q code 0 crcrsv 0 is size (omega arith) (omega arith), ap length (whole_is q code 0 crcrsv 0), length-append (bits 0x0B77 16) (bits 0 16 ++ (m ++ bits 0 16)), length-append (bits 0 16) (m ++ bits 0 16), length-append m (bits 0 16), length-bits 0x0B77 16, length-bits 0 16)

-- crcrsv is not in the first CRC part
front_same : (q : Quantised) (code : ℕ) (crcrsv : Bool) (m : ℕ) → IsQuantised q → IsSizeCode q.shape.fscod q.shape.words code → m + 49 ≤ 16 * q.shape.words → take m (middle q code crcrsv) ≡ take m (middle q code false)
front_same q code crcrsv m is size h =
    let k : m ≤ length (before q code) = omega (arith, h, middle_long q code crcrsv is size, length-append (before q code) (crcrsv ∷ [])) in
    take-append-le m (before q code) (crcrsv ∷ []) k ∙ sym (take-append-le m (before q code) (false ∷ []) k)

front_of : (s c b d : List Bool) (n m : ℕ) → length s ≡ 16 → length c ≡ 16 → n ≡ 32 + m → m ≤ length b → drop 16 (take n (s ++ (c ++ (b ++ d)))) ≡ c ++ take m b
front_of s c b d n m es ec en h =
    let one : n ≡ length s + (16 + m) = omega arith in
    let two : 16 + m ≡ length c + m = omega arith in
    ap (λ k. drop 16 (take k (s ++ (c ++ (b ++ d))))) one
    ∙ (ap (drop 16) (take-append-add s (c ++ (b ++ d)) (16 + m))
    ∙ (drop_at s (take (16 + m) (c ++ (b ++ d))) 16 es
    ∙ (ap (λ k. take k (c ++ (b ++ d))) two
    ∙ (take-append-add c (b ++ d) m
    ∙ ap (λ l. c ++ l) (take-append-le m b d h)))))

-- ---- these are the parts of the frame
pub is_packed : (q : Quantised) (frame : List ℕ) (code crc1 : ℕ) (r : Bool) (crc2 m : ℕ) → IsQuantised q → IsSizeCode q.shape.fscod q.shape.words code → front_room q.shape.words ≡ 32 + m → crc1 < 2 ^ 16 → crc2 < 2 ^ 16
    → bits_of frame ≡ bits 0x0B77 16 ++ (bits crc1 16 ++ (middle q code r ++ bits crc2 16))
    → IsRemainder (bits crc1 16 ++ take m (middle q code false)) 0
    → IsRemainder (bits crc1 16 ++ (middle q code r ++ bits crc2 16)) 0
    → ((r ≡ false) × (crc2 ≢ 0x0B77)) ⊎ ((r ≡ true) × IsRemainder (bits crc1 16 ++ (middle q code false ++ bits 0x0B77 16)) 0)
    → IsPacked q frame
unfolding sent_record
is_packed q frame code crc1 r crc2 m is size e small1 small2 whole front all reserved =
    let Zero : List Bool → Type 0 = λ l. IsRemainder l 0 in
    let s = bits 0x0B77 16 in
    let c = bits crc1 16 in
    let b = middle q code r in
    let d = bits crc2 16 in
    let long = middle_long q code r is size in
    let low : m + 49 ≤ 16 * q.shape.words = omega (arith, e, q.shape.least_size) in
    let inside : m ≤ length b = omega (arith, low, long) in
    let same : bits_of frame ≡ record_spelled (sent_record q code crc1 r crc2) = whole ∙ sym (whole_is q code crc1 r crc2) in
    let words : words_of (sent_head q.shape code crc1) ≡ q.shape.words = size.size in
    let head : front_part q.shape.words (bits_of frame) ≡ c ++ take m (middle q code false) =
    ap (front_part q.shape.words) whole ∙ (front_of s c b d (front_room q.shape.words) m (length-bits 0x0B77 16) (length-bits crc1 16) e inside ∙ ap (λ l. c ++ l) (front_same q code r m is size low)) in
    record {
      frmsizecod = code;
      crc1 = crc1;
      crcrsv = r;
      crc2 = crc2;
      size = size;
      stands = record {
        is_record = is_record q code crc1 r crc2 is size small1 small2;
        whole = same;
        size = ap length same ∙ (has_size q code crc1 r crc2 is size small1 small2 ∙ ap (λ n. 16 * n) (sym words));
        front = subst (λ (n : ℕ). IsRemainder (front_part n (bits_of frame)) 0) (sym words) (subst Zero (sym head) front);
        all = subst Zero (sym (ap all_part whole ∙ drop_at s (c ++ (b ++ d)) 16 (length-bits 0x0B77 16))) all;
      };
      reserved =
          elim reserved [
            | inl p ↦ inl p
            | inr p ↦
                inr (p.0, subst Zero (sym (ap all_part (whole_is q code crc1 false 0x0B77) ∙ drop_at s (c ++ (middle q code false ++ bits 0x0B77 16)) 16 (length-bits 0x0B77 16))) p.1)
          ];
    }

-- ---- bytes
take_none : (n : ℕ) → take {A = Bool} n [] ≡ []
take_none zero = refl
take_none (suc n) = refl

bits_of-take : (k : ℕ) (l : List ℕ) → bits_of (take k l) ≡ take (8 * k) (bits_of l)
bits_of-take zero l = refl
bits_of-take (suc k) [] = sym (take_none (8 * suc k))
bits_of-take (suc k) (b ∷ l) =
    let n : 8 * suc k ≡ length (bits b 8) + 8 * k = omega (arith, length-bits b 8) in
    ap (λ x. bits b 8 ++ x) (bits_of-take k l)
    ∙ (sym (take-append-add (bits b 8) (bits_of l) (8 * k)) ∙ ap (λ m. take m (bits b 8 ++ bits_of l)) (sym n))

drop_none : (n : ℕ) → drop {A = Bool} n [] ≡ []
drop_none zero = refl
drop_none (suc n) = refl

bits_of-drop : (k : ℕ) (l : List ℕ) → bits_of (drop k l) ≡ drop (8 * k) (bits_of l)
bits_of-drop zero l = refl
bits_of-drop (suc k) [] = sym (drop_none (8 * suc k))
bits_of-drop (suc k) (b ∷ l) =
    let n : 8 * suc k ≡ 8 + 8 * k = omega arith in
    bits_of-drop k l
    ∙ (ap (drop (8 * k)) (sym (drop_at (bits b 8) (bits_of l) 8 (length-bits b 8)))
    ∙ (drop-drop (8 * k) 8 (bits b 8 ++ bits_of l) ∙ ap (λ m. drop m (bits b 8 ++ bits_of l)) (sym n)))

-- the first m bits behind crc1, of bytes whose bits are known
piece : (s c b d : List Bool) (m : ℕ) → length s ≡ 16 → length c ≡ 16 → m ≤ length b → drop 32 (take (32 + m) (s ++ (c ++ (b ++ d)))) ≡ take m b
piece s c b d m es ec h =
    let sum : 32 ≡ 16 + 16 = omega arith in
    let add : (l : List Bool) → drop 32 l ≡ drop 16 (drop 16 l) = λ l. sym (drop-drop 16 16 l) in
    add (take (32 + m) (s ++ (c ++ (b ++ d)))) ∙ (ap (drop 16) (front_of s c b d (32 + m) m es ec refl h) ∙ drop_at c (take m b) 16 ec)

pub between_bits : (q : Quantised) (buf : List ℕ) (code n to m : ℕ) (r : Bool) → IsQuantised q → IsSizeCode q.shape.fscod q.shape.words code → n ≡ 2 * q.shape.words → bits_of (take n buf) ≡ record_spelled (sent_record q code 0 r 0)
    → to ≤ n → 8 * to ≡ 32 + m → m + 48 ≤ 16 * q.shape.words → bits_of (drop 4 (take to buf)) ≡ take m (middle q code r)
between_bits q buf code n to m r is size en e le em low =
    let b = middle q code r in
    let inside : m ≤ length b = omega (arith, low, middle_long q code r is size) in
    bits_of-drop 4 (take to buf)
    ∙ (ap (drop 32) (ap bits_of (sym (take-take to n buf le)) ∙ bits_of-take to (take n buf))
    ∙ (ap₂ (λ (k : ℕ) (l : List Bool). drop 32 (take k l)) em (e ∙ whole_is q code 0 r 0)
    ∙ piece (bits 0x0B77 16) (bits 0 16) b (bits 0 16) m (length-bits 0x0B77 16) (length-bits 0 16) inside))

-- three pieces, each placed behind the one before
pub placed : (o0 o1 o2 o3 s c b : List ℕ) (n1 n2 n3 : ℕ) → take n1 o1 ≡ take 0 o0 ++ s → take n2 o2 ≡ take 2 o1 ++ c → take n3 o3 ≡ take 4 o2 ++ b → n1 ≡ 2 → n2 ≡ 4 → take n3 o3 ≡ s ++ (c ++ b)
placed o0 o1 o2 o3 s c b n1 n2 n3 p1 p2 p3 h1 h2 =
    let e1 : take 2 o1 ≡ s = ap (λ n. take n o1) (sym h1) ∙ p1 in
    let e2 : take 4 o2 ≡ s ++ c = ap (λ n. take n o2) (sym h2) ∙ (p2 ∙ ap (λ l. l ++ c) e1) in
    p3 ∙ (ap (λ l. l ++ b) e2 ∙ append_assoc s c b)

-- what stands behind the first two bytes
pub behind_two : (o s t : List ℕ) (n : ℕ) → take n o ≡ s ++ t → length s ≡ 2 → mid_of 2 (n - 2) o ≡ t
behind_two o s t n e h = between_is o 2 n ∙ (ap (drop 2) e ∙ drop_at s t 2 h)

-- two lists that agree from a place on agree further on
pub drop_further : (x y : List ℕ) (a n : ℕ) → drop a x ≡ drop a y → a ≤ n → drop n x ≡ drop n y
drop_further x y a n e h =
    let k : n ≡ a + (n - a) = omega arith in
    ap (λ m. drop m x) k ∙ (sym (drop-drop (n - a) a x) ∙ (ap (drop (n - a)) e ∙ (drop-drop (n - a) a y ∙ ap (λ m. drop m y) (sym k))))

-- the bits of three pieces
pub bits_of-three : (s c b : List ℕ) → bits_of (s ++ (c ++ b)) ≡ bits_of s ++ (bits_of c ++ bits_of b)
bits_of-three s c b = bits_of-append s (c ++ b) ∙ ap (λ l. bits_of s ++ l) (bits_of-append c b)

-- all that stands between the CRC words
pub whole_between : (q : Quantised) (buf : List ℕ) (code n to : ℕ) (r : Bool) → IsQuantised q → IsSizeCode q.shape.fscod q.shape.words code → n ≡ 2 * q.shape.words → bits_of (take n buf) ≡ record_spelled (sent_record q code 0 r 0)
    → to + 2 ≡ n → bits_of (drop 4 (take to buf)) ≡ middle q code r
whole_between q buf code n to r is size en e place =
    let long = middle_long q code r is size in
    let m = 16 * q.shape.words - 48 in
    let some = q.shape.least_size in
    let le : to ≤ n = omega (arith, place) in
    let here : 8 * to ≡ 32 + m = omega (arith, place, en, some) in
    let low : m + 48 ≤ 16 * q.shape.words = omega (arith, some) in
    let all : length (middle q code r) ≤ m = omega (arith, long) in
    between_bits q buf code n to m r is size en e le here low ∙ take_all m (middle q code r) all

-- a frame whose middle bytes are known by their bits
pub made : (frame body : List ℕ) (middle : List Bool) (n crc1 crc2 : ℕ) → length body + 6 ≡ n → bits_of body ≡ middle
    → bits_of (take (length body + 6) frame) ≡ bits 0x0B77 16 ++ (bits crc1 16 ++ (bits_of body ++ bits crc2 16)) → bits_of (take n frame) ≡ bits 0x0B77 16 ++ (bits crc1 16 ++ (middle ++ bits crc2 16))
made frame body middle n crc1 crc2 long e f =
    ap (λ (k : ℕ). bits_of (take k frame)) (sym long) ∙ (f ∙ ap (λ (l : List Bool). bits 0x0B77 16 ++ (bits crc1 16 ++ (l ++ bits crc2 16))) e)

pub made_whole : (body : List ℕ) (middle : List Bool) (crc1 crc2 : ℕ) → bits_of body ≡ middle → IsRemainder (bits crc1 16 ++ (bits_of body ++ bits crc2 16)) 0 → IsRemainder (bits crc1 16 ++ (middle ++ bits crc2 16)) 0
made_whole body middle crc1 crc2 e r = subst (λ (l : List Bool). IsRemainder (bits crc1 16 ++ (l ++ bits crc2 16)) 0) e r

-- the first CRC part, by its bytes
pub made_front : (q : Quantised) (buf piece : List ℕ) (code n front crc1 : ℕ) → IsQuantised q → IsSizeCode q.shape.fscod q.shape.words code → n ≡ 2 * q.shape.words → bits_of (take n buf) ≡ record_spelled (sent_record q code 0 false 0)
    → front ≡ front_words_of q.shape.words → piece ≡ drop 4 (take (2 * front) buf) → IsRemainder (bits crc1 16 ++ bits_of piece) 0
    → IsRemainder (bits crc1 16 ++ take (front_room q.shape.words - 32) (middle q code false)) 0
made_front q buf piece code n front crc1 is size en e words here rem =
    let w = q.shape.words in
    let some = q.shape.least_size in
    let m = front_room w - 32 in
    let eight : 8 * (2 * front) ≡ 32 + m = omega (arith, words, some) in
    let le : 2 * front ≤ n = omega (arith, words, en) in
    let low : m + 48 ≤ 16 * w = omega (arith, some) in
    subst (λ (l : List Bool). IsRemainder (bits crc1 16 ++ l) 0) (ap bits_of here ∙ between_bits q buf code n (2 * front) m false is size en e le eight low) rem

-- the parts that the CRC words make whole, of what is sent
pub all_is : (q : Quantised) (code crc1 : ℕ) (r : Bool) (crc2 : ℕ) → all_part (record_spelled (sent_record q code crc1 r crc2)) ≡ bits crc1 16 ++ (middle q code r ++ bits crc2 16)
all_is q code crc1 r crc2 = ap all_part (whole_is q code crc1 r crc2) ∙ drop_at (bits 0x0B77 16) (bits crc1 16 ++ (middle q code r ++ bits crc2 16)) 16 (length-bits 0x0B77 16)

pub front_is : (q : Quantised) (code crc1 : ℕ) (r : Bool) (crc2 m : ℕ) → IsQuantised q → IsSizeCode q.shape.fscod q.shape.words code → front_room q.shape.words ≡ 32 + m
    → front_part q.shape.words (record_spelled (sent_record q code crc1 r crc2)) ≡ bits crc1 16 ++ take m (middle q code false)
front_is q code crc1 r crc2 m is size e =
    let low : m + 49 ≤ 16 * q.shape.words = omega (arith, e, q.shape.least_size) in
    let inside : m ≤ length (middle q code r) = omega (arith, low, middle_long q code r is size) in
    ap (front_part q.shape.words) (whole_is q code crc1 r crc2)
    ∙ (front_of (bits 0x0B77 16) (bits crc1 16) (middle q code r) (bits crc2 16) (front_room q.shape.words) m (length-bits 0x0B77 16) (length-bits crc1 16) e inside ∙ ap (λ l. bits crc1 16 ++ l) (front_same q code r m is size low))
