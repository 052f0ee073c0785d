-- Laws of remainders.
use Rattle.std.proofs.Common.{◌≡◌, ℕ, zero, suc, ◌+◌, ◌*◌, ◌/◌, ◌%◌, ◌^◌, ◌<◌, ◌≤◌, Bool, true, false, List, [], ◌∷◌, ◌++◌, length, refl, ap, sym, subst, ◌∙◌, arith, append_assoc, take, drop, get_or, length-append, length-drop}
use Rattle.std.proofs.Math.Bool.{xor}
use Rattle.std.proofs.Math.Path.{ap₂}
use Rattle.std.proofs.Math.Seq.{drop-length}
use Rattle.std.proofs.lemmas.List.{append-nil, take_at, drop_at, take_all, take_more, drop_more, append_cancel_left, append_cancel_right, length-replicate, replicate-append-replicate, take-append-drop}
use Rattle.std.proofs.lemmas.Nat.{xor_of_16}
use Rattle.std.specs.Int.Bits.{xor_zero_l}
use Rattle.std.specs.Prelude.{bit_xor}
use Rattle.ac_bits.specs.Bits.{bits, num, bits_of}
use Rattle.ac_bits.proofs.Laws.{length-bits, bits-split, bits-join, bits_of-append, num-bits, bits_same}
use Rattle.ac_crc.specs.Remainder.{add, zeros, copies, IsRemainder}
use Rattle.ac_crc.proofs.Carryless.{add-append, length-add, add-zeros, add-comm, back, bits-xor, length-copies, copies-zeros, copies-add, copies-drop, picks_same, last_same}

zero_word : zeros 16 ≡ bits 0 16
unfolding bits
zero_word = refl

zero_byte : zeros 8 ≡ bits 0 8
unfolding bits
zero_byte = refl

add-zeros_behind : (l : List Bool) (n : ℕ) → length l ≡ n → add l (zeros n) ≡ l
add-zeros_behind l n h = add-comm l (zeros n) ∙ add-zeros n l h

pub starts : IsRemainder [] 0
unfolding copies bits
starts = record { fits = omega arith; picked = []; sum = refl }

pub length-picked : (l : List Bool) (r : ℕ) (a : IsRemainder l r) → length a.picked ≡ length l
length-picked l r a = omega (arith, ap length a.sum, length-append l (bits r 16), length-bits r 16, length-copies a.picked)

-- the remainder of a sum
pub sums : (a b : List Bool) (r s : ℕ) → IsRemainder a r → IsRemainder b s → length a ≡ length b → IsRemainder (add a b) (bit_xor r s)
sums a b r s x y n =
    record {
      fits = xor_of_16 r s x.fits y.fits;
      picked = add x.picked y.picked;
      sum = copies-add x.picked y.picked (length-picked a r x ∙ (n ∙ sym (length-picked b s y)))
          ∙ (ap₂ add x.sum y.sum
          ∙ (add-append a b (bits r 16) (bits s 16) n ∙ ap (λ z. add a b ++ z) (sym (bits-xor r s 16))));
    }

-- zeros in front change nothing
pub after_zeros : (n : ℕ) (l : List Bool) (r : ℕ) → IsRemainder l r → IsRemainder (zeros n ++ l) r
unfolding copies
after_zeros zero l r a = a
after_zeros (suc n) l r a =
    let b = after_zeros n l r a in
    record { fits = b.fits; picked = false ∷ b.picked; sum = ap (λ x. false ∷ x) b.sum }

turned : (m n : ℕ) → zeros m ++ zeros n ≡ zeros n ++ zeros m
turned m n = replicate-append-replicate m n false ∙ (ap zeros (let e : m + n ≡ n + m = omega arith in e) ∙ sym (replicate-append-replicate n m false))

-- nor do zeros behind a remainder 0
pub before_zeros : (n : ℕ) (l : List Bool) → IsRemainder l 0 → IsRemainder (l ++ zeros n) 0
before_zeros n l a =
    let turn : zeros 16 ++ zeros n ≡ zeros n ++ zeros 16 = turned 16 n in
    record {
      fits = a.fits;
      picked = a.picked ++ zeros n;
      sum = copies-zeros a.picked n
          ∙ (ap (λ x. x ++ zeros n) (a.sum ∙ ap (λ z. l ++ z) (sym zero_word))
          ∙ (append_assoc l (zeros 16) (zeros n) ∙ (ap (λ z. l ++ z) turn ∙ (sym (append_assoc l (zeros n) (zeros 16)) ∙ ap (λ z. (l ++ zeros n) ++ z) zero_word))));
    }

-- ---- one remainder alone, and one word behind
pub one_remainder : (l : List Bool) (r s : ℕ) → IsRemainder l r → IsRemainder l s → r ≡ s
one_remainder l r s a b =
    let la = length-picked l r a in
    let lb = length-picked l s b in
    let fa : take (length a.picked) (copies a.picked) ≡ l = ap (λ x. take (length a.picked) x) a.sum ∙ take_at l (bits r 16) (length a.picked) (sym la) in
    let fb : take (length b.picked) (copies b.picked) ≡ l = ap (λ x. take (length b.picked) x) b.sum ∙ take_at l (bits s 16) (length b.picked) (sym lb) in
    let same = picks_same a.picked b.picked (la ∙ sym lb) (fa ∙ sym fb) in
    let ends : bits r 16 ≡ bits s 16 = append_cancel_left l (bits r 16) (bits s 16) (sym a.sum ∙ (ap copies same ∙ b.sum)) in
    sym (num-bits r 16 a.fits) ∙ (ap num ends ∙ num-bits s 16 b.fits)

pub followed : (l : List Bool) (r : ℕ) → IsRemainder l r → IsRemainder (l ++ bits r 16) 0
followed l r a =
    record {
      fits = omega arith;
      picked = a.picked ++ zeros 16;
      sum = copies-zeros a.picked 16 ∙ (ap (λ x. x ++ zeros 16) a.sum ∙ ap (λ x. (l ++ bits r 16) ++ x) zero_word);
    }

none_picked : drop 16 (copies (zeros 16)) ≡ bits 0 16
unfolding copies bits
none_picked = refl

-- the last 16 picks are none, so the word behind is the remainder
pub trails : (l : List Bool) (u : ℕ) → u < 2 ^ 16 → IsRemainder (l ++ bits u 16) 0 → IsRemainder l u
trails l u h a =
    let n = length l in
    let w = l ++ bits u 16 in
    let p = a.picked in
    let lw : length w ≡ 16 + n = omega (arith, length-append l (bits u 16), length-bits u 16) in
    let lp : length p ≡ 16 + n = length-picked w 0 a ∙ lw in
    let none : drop 16 (copies (drop n p)) ≡ drop 16 (copies (zeros 16)) =
    sym (copies-drop n p (omega arith)) ∙ (ap (drop (16 + n)) a.sum ∙ (drop_at w (bits 0 16) (16 + n) lw ∙ sym none_picked)) in
    let ends : drop n p ≡ zeros 16 = last_same (drop n p) (zeros 16) (length-drop n p ∙ (omega arith)) none in
    let whole : take n p ++ zeros 16 ≡ p = ap (λ z. take n p ++ z) (sym ends) ∙ take-append-drop n p in
    let sum : copies (take n p) ++ zeros 16 ≡ w ++ zeros 16 = sym (copies-zeros (take n p) 16) ∙ (ap copies whole ∙ (a.sum ∙ ap (λ z. w ++ z) (sym zero_word))) in
    record { fits = h; picked = take n p; sum = append_cancel_right (copies (take n p)) w (zeros 16) sum }

pub one_trailing : (l : List Bool) (r u : ℕ) → IsRemainder l r → u < 2 ^ 16 → IsRemainder (l ++ bits u 16) 0 → u ≡ r
one_trailing l r u a h b = one_remainder l u r (trails l u h b) a

-- ---- one word in front
pub one_leading : (l : List Bool) (u w : ℕ) → u < 2 ^ 16 → w < 2 ^ 16 → IsRemainder (bits u 16 ++ l) 0 → IsRemainder (bits w 16 ++ l) 0 → u ≡ w
one_leading l u w h k a b =
    let ea : copies a.picked ≡ bits u 16 ++ (l ++ bits 0 16) = a.sum ∙ append_assoc (bits u 16) l (bits 0 16) in
    let eb : copies b.picked ≡ bits w 16 ++ (l ++ bits 0 16) = b.sum ∙ append_assoc (bits w 16) l (bits 0 16) in
    let da : drop 16 (copies a.picked) ≡ l ++ bits 0 16 = ap (drop 16) ea ∙ drop_at (bits u 16) (l ++ bits 0 16) 16 (length-bits u 16) in
    let db : drop 16 (copies b.picked) ≡ l ++ bits 0 16 = ap (drop 16) eb ∙ drop_at (bits w 16) (l ++ bits 0 16) 16 (length-bits w 16) in
    let la : length a.picked ≡ 16 + length l = length-picked (bits u 16 ++ l) 0 a ∙ (omega (arith, length-append (bits u 16) l, length-bits u 16)) in
    let lb : length b.picked ≡ 16 + length l = length-picked (bits w 16 ++ l) 0 b ∙ (omega (arith, length-append (bits w 16) l, length-bits w 16)) in
    let same : a.picked ≡ b.picked = last_same a.picked b.picked (la ∙ sym lb) (da ∙ sym db) in
    (bits_same u 16 w (l ++ bits 0 16) (l ++ bits 0 16) h k (sym ea ∙ (ap copies same ∙ eb))).0

-- ---- a byte behind
moved : (l : List Bool) (r : ℕ) → IsRemainder l r → IsRemainder (l ++ bits (r / 2 ^ 8) 8) (r % 2 ^ 8 * 2 ^ 8)
moved l r a =
    let low : r % 2 ^ 8 * 2 ^ 8 ≡ r % 2 ^ 8 * 2 ^ 8 + 0 = omega arith in
    let split : bits r 16 ≡ bits (r / 2 ^ 8) 8 ++ bits (r % 2 ^ 8) 8 = bits-split r 8 8 in
    let join : bits (r % 2 ^ 8) 8 ++ zeros 8 ≡ bits (r % 2 ^ 8 * 2 ^ 8) 16 = ap (λ z. bits (r % 2 ^ 8) 8 ++ z) zero_byte ∙ (sym (bits-join (r % 2 ^ 8) 8 8 0 (omega arith)) ∙ ap (λ n. bits n 16) (sym low)) in
    let h = bits (r / 2 ^ 8) 8 in
    let m = bits (r % 2 ^ 8) 8 in
    record {
      fits = omega arith;
      picked = a.picked ++ zeros 8;
      sum = copies-zeros a.picked 8
          ∙ (ap (λ x. x ++ zeros 8) (a.sum ∙ (ap (λ x. l ++ x) split ∙ sym (append_assoc l h m)))
          ∙ (append_assoc (l ++ h) m (zeros 8) ∙ ap (λ x. (l ++ h) ++ x) join));
    }

pub enters : (l : List Bool) (r b t : ℕ) → IsRemainder l r → IsRemainder (bits (bit_xor (r / 2 ^ 8) b) 8) t → IsRemainder (l ++ bits b 8) (bit_xor (r % 2 ^ 8 * 2 ^ 8) t)
enters l r b t a e =
    let h = bits (r / 2 ^ 8) 8 in
    let i = bits (bit_xor (r / 2 ^ 8) b) 8 in
    let lh : length h ≡ length i = length-bits (r / 2 ^ 8) 8 ∙ sym (length-bits (bit_xor (r / 2 ^ 8) b) 8) in
    let lz : length (zeros (length l)) ≡ length l = length-replicate (length l) false in
    let long : length (l ++ h) ≡ length (zeros (length l) ++ i) = omega (arith, length-append l h, length-append (zeros (length l)) i, lh, lz) in
    let last : add h i ≡ bits b 8 = ap (add h) (bits-xor (r / 2 ^ 8) b 8) ∙ back h (bits b 8) (length-bits (r / 2 ^ 8) 8 ∙ sym (length-bits b 8)) in
    let whole : add (l ++ h) (zeros (length l) ++ i) ≡ l ++ bits b 8 = add-append l (zeros (length l)) h i (sym lz) ∙ ap₂ (λ x y. x ++ y) (add-zeros_behind l (length l) refl) last in
    subst (λ (x : List Bool). IsRemainder x (bit_xor (r % 2 ^ 8 * 2 ^ 8) t)) whole (sums (l ++ h) (zeros (length l) ++ i) (r % 2 ^ 8 * 2 ^ 8) t (moved l r a) (after_zeros (length l) i t e) long)

-- ---- four bytes behind
-- a byte in front of what has a remainder
pub in_front : (b n : ℕ) (l : List Bool) (s r : ℕ) → IsRemainder (bits b 8 ++ zeros n) s → IsRemainder l r → length l ≡ n → IsRemainder (bits b 8 ++ l) (bit_xor s r)
in_front b n l s r x y h =
    let lb : length (bits b 8) ≡ length (zeros 8) = length-bits b 8 in
    let lz : length (zeros n) ≡ length l = length-replicate n false ∙ sym h in
    let long : length (bits b 8 ++ zeros n) ≡ length (zeros 8 ++ l) = omega (arith, length-append (bits b 8) (zeros n), length-append (zeros 8) l, lb, lz) in
    let whole : add (bits b 8 ++ zeros n) (zeros 8 ++ l) ≡ bits b 8 ++ l = add-append (bits b 8) (zeros 8) (zeros n) l lb ∙ ap₂ (λ u v. u ++ v) (add-zeros_behind (bits b 8) 8 (length-bits b 8)) (add-zeros n l h) in
    subst (λ (u : List Bool). IsRemainder u (bit_xor s r)) whole (sums (bits b 8 ++ zeros n) (zeros 8 ++ l) s r x (after_zeros 8 l r y) long)

-- a block behind acts on what the register adds to it
enters_block : (l m : List Bool) (k r t : ℕ) → IsRemainder l r → IsRemainder (add (bits r 16 ++ zeros k) m) t → length m ≡ 16 + k → IsRemainder (l ++ m) t
enters_block l m k r t a e h =
    let w = bits r 16 ++ zeros k in
    let z = zeros (length l) in
    let lw : length w ≡ length m = omega (arith, length-append (bits r 16) (zeros k), length-bits r 16, length-replicate k false) in
    let lz : length l ≡ length z = sym (length-replicate (length l) false) in
    let left : IsRemainder (l ++ w) 0 = subst (λ (x : List Bool). IsRemainder x 0) (append_assoc l (bits r 16) (zeros k)) (before_zeros k (l ++ bits r 16) (followed l r a)) in
    let long : length (l ++ w) ≡ length (z ++ add w m) = omega (arith, length-append l w, length-append z (add w m), length-add w m lw, lw, lz) in
    let whole : add (l ++ w) (z ++ add w m) ≡ l ++ m = add-append l z w (add w m) lz ∙ ap₂ (λ u v. u ++ v) (add-zeros_behind l (length l) refl) (back w m lw) in
    subst (λ (n : ℕ). IsRemainder (l ++ m) n) (xor_zero_l t) (subst (λ (x : List Bool). IsRemainder x (bit_xor 0 t)) whole (sums (l ++ w) (z ++ add w m) 0 t left (after_zeros (length l) (add w m) t e) long))

pub enters_four : (l : List Bool) (r a b c d t : ℕ) → IsRemainder l r → IsRemainder (bits (bit_xor (r / 2 ^ 8) a) 8 ++ (bits (bit_xor (r % 2 ^ 8) b) 8 ++ (bits c 8 ++ bits d 8))) t → IsRemainder (l ++ (bits a 8 ++ (bits b 8 ++ (bits c 8 ++ bits d 8)))) t
enters_four l r a b c d t x e =
    let h = bits (r / 2 ^ 8) 8 in
    let k = bits (r % 2 ^ 8) 8 in
    let rest = bits c 8 ++ bits d 8 in
    let m = bits a 8 ++ (bits b 8 ++ rest) in
    let same : (u v : ℕ) → length (bits u 8) ≡ length (bits v 8) = λ u v. length-bits u 8 ∙ sym (length-bits v 8) in
    let lr : length rest ≡ 16 = length-append (bits c 8) (bits d 8) ∙ (omega (arith, length-bits c 8, length-bits d 8)) in
    let lm : length m ≡ 16 + 16 = omega (arith, length-append (bits a 8) (bits b 8 ++ rest), length-append (bits b 8) rest, length-bits a 8, length-bits b 8, lr) in
    let whole : add (bits r 16 ++ zeros 16) m ≡ bits (bit_xor (r / 2 ^ 8) a) 8 ++ (bits (bit_xor (r % 2 ^ 8) b) 8 ++ rest) =
    ap (λ u. add u m) (ap (λ u. u ++ zeros 16) (bits-split r 8 8) ∙ append_assoc h k (zeros 16))
    ∙ (add-append h (bits a 8) (k ++ zeros 16) (bits b 8 ++ rest) (same (r / 2 ^ 8) a)
    ∙ ap₂ (λ u v. u ++ v) (sym (bits-xor (r / 2 ^ 8) a 8))
    (add-append k (bits b 8) (zeros 16) rest (same (r % 2 ^ 8) b)
    ∙ ap₂ (λ u v. u ++ v) (sym (bits-xor (r % 2 ^ 8) b 8)) (add-zeros 16 rest lr))) in
    enters_block l m 16 r t x (subst (λ (u : List Bool). IsRemainder u t) (sym whole) e) lm

-- the remainder of four bytes
pub four : (a b c d s t u v : ℕ) → IsRemainder (bits a 8 ++ zeros 24) s → IsRemainder (bits b 8 ++ zeros 16) t → IsRemainder (bits c 8 ++ zeros 8) u → IsRemainder (bits d 8) v → IsRemainder (bits a 8 ++ (bits b 8 ++ (bits c 8 ++ bits d 8))) (bit_xor s (bit_xor t (bit_xor u v)))
four a b c d s t u v x y z w =
    let ld = length-bits d 8 in
    let cd = bits c 8 ++ bits d 8 in
    let lc : length cd ≡ 16 = length-append (bits c 8) (bits d 8) ∙ (omega (arith, length-bits c 8, ld)) in
    let lb : length (bits b 8 ++ cd) ≡ 24 = length-append (bits b 8) cd ∙ (omega (arith, length-bits b 8, lc)) in
    in_front a 24 (bits b 8 ++ cd) s (bit_xor t (bit_xor u v)) x (in_front b 16 cd t (bit_xor u v) y (in_front c 8 (bits d 8) u v z w ld) lc) lb

-- ---- a byte in front
pub enters_front : (l : List Bool) (w b t : ℕ) → w < 2 ^ 16 → IsRemainder (bits w 16 ++ l) 0 → IsRemainder (bits t 16 ++ bits (bit_xor (w % 2 ^ 8) b) 8) 0 → IsRemainder (bits (bit_xor (w / 2 ^ 8) t) 16 ++ (bits b 8 ++ l)) 0
enters_front l w b t a_fits a e =
    let h = bits (w / 2 ^ 8) 16 in
    let m = bits (w % 2 ^ 8) 8 in
    let x = bits t 16 in
    let i = bits (bit_xor (w % 2 ^ 8) b) 8 in
    let z = zeros (length l) in
    let none : 0 * 2 ^ 16 + w ≡ w = omega arith in
    let split : zeros 8 ++ bits w 16 ≡ h ++ m = ap (λ y. y ++ bits w 16) zero_byte ∙ (sym (bits-join 0 8 16 w a_fits) ∙ (ap (λ n. bits n 24) none ∙ bits-split w 16 8)) in
    let left : IsRemainder (h ++ (m ++ l)) 0 = subst (λ (y : List Bool). IsRemainder y 0) (sym (append_assoc (zeros 8) (bits w 16) l) ∙ (ap (λ y. y ++ l) split ∙ append_assoc h m l)) (after_zeros 8 (bits w 16 ++ l) 0 a) in
    let right : IsRemainder (x ++ (i ++ z)) 0 = subst (λ (y : List Bool). IsRemainder y 0) (append_assoc x i z) (before_zeros (length l) (x ++ i) e) in
    let lm : length m ≡ length i = length-bits (w % 2 ^ 8) 8 ∙ sym (length-bits (bit_xor (w % 2 ^ 8) b) 8) in
    let lh : length h ≡ length x = length-bits (w / 2 ^ 8) 16 ∙ sym (length-bits t 16) in
    let long : length (h ++ (m ++ l)) ≡ length (x ++ (i ++ z)) = omega (arith, length-append h (m ++ l), length-append m l, length-append x (i ++ z), length-append i z, length-replicate (length l) false, lm, lh) in
    let last : add m i ≡ bits b 8 = ap (add m) (bits-xor (w % 2 ^ 8) b 8) ∙ back m (bits b 8) (length-bits (w % 2 ^ 8) 8 ∙ sym (length-bits b 8)) in
    let whole : add (h ++ (m ++ l)) (x ++ (i ++ z)) ≡ bits (bit_xor (w / 2 ^ 8) t) 16 ++ (bits b 8 ++ l) =
    add-append h x (m ++ l) (i ++ z) lh
    ∙ ap₂ (λ y v. y ++ v) (sym (bits-xor (w / 2 ^ 8) t 16)) (add-append m i l z lm ∙ ap₂ (λ y v. y ++ v) last (add-zeros_behind l (length l) refl)) in
    subst (λ (y : List Bool). IsRemainder y 0) whole (sums (h ++ (m ++ l)) (x ++ (i ++ z)) 0 0 left right long)

-- ---- the bytes of a list
pub bits_of-more : (bytes : List ℕ) (i : ℕ) → i < length bytes → bits_of (take i bytes) ++ bits (get_or bytes i 0) 8 ≡ bits_of (take (i + 1) bytes)
bits_of-more bytes i h =
    let b = get_or bytes i 0 in
    ap (λ l. bits_of (take i bytes) ++ l) (sym (append-nil (bits b 8)))
    ∙ (sym (bits_of-append (take i bytes) (b ∷ [])) ∙ ap bits_of (sym (take_more bytes i 0 h)))

bits_of-next : (bytes : List ℕ) (i j : ℕ) → i < length bytes → i + 1 ≡ j → bits_of (take i bytes) ++ bits (get_or bytes i 0) 8 ≡ bits_of (take j bytes)
bits_of-next bytes i j h e = bits_of-more bytes i h ∙ ap (λ k. bits_of (take k bytes)) e

pub bits_of-before : (bytes : List ℕ) (i : ℕ) → i < length bytes → bits (get_or bytes i 0) 8 ++ bits_of (drop (i + 1) bytes) ≡ bits_of (drop i bytes)
bits_of-before bytes i h = ap bits_of (sym (drop_more bytes i 0 h))

word_alone : IsRemainder (bits 0 16 ++ []) 0
unfolding bits copies
word_alone = record { fits = omega arith; picked = zeros 16; sum = refl }

pub starts_front : (bytes : List ℕ) → IsRemainder (bits 0 16 ++ bits_of (drop (length bytes) bytes)) 0
starts_front bytes = subst (λ (l : List ℕ). IsRemainder (bits 0 16 ++ bits_of l) 0) (sym (drop-length bytes)) word_alone

pub bits_of-four : (bytes : List ℕ) (i : ℕ) → i + 4 ≤ length bytes → bits_of (take i bytes) ++ (bits (get_or bytes i 0) 8 ++ (bits (get_or bytes (i + 1) 0) 8 ++ (bits (get_or bytes (i + 2) 0) 8 ++ bits (get_or bytes (i + 3) 0) 8))) ≡ bits_of (take (i + 4) bytes)
bits_of-four bytes i h =
    let a = bits (get_or bytes i 0) 8 in
    let b = bits (get_or bytes (i + 1) 0) 8 in
    let c = bits (get_or bytes (i + 2) 0) 8 in
    let d = bits (get_or bytes (i + 3) 0) 8 in
    let f = bits_of (take i bytes) in
    sym (append_assoc f a (b ++ (c ++ d)))
    ∙ (ap (λ x. x ++ (b ++ (c ++ d))) (bits_of-more bytes i (omega arith))
    ∙ (sym (append_assoc (bits_of (take (i + 1) bytes)) b (c ++ d))
    ∙ (ap (λ x. x ++ (c ++ d)) (bits_of-next bytes (i + 1) (i + 2) (omega arith) (omega arith))
    ∙ (sym (append_assoc (bits_of (take (i + 2) bytes)) c d)
    ∙ (ap (λ x. x ++ d) (bits_of-next bytes (i + 2) (i + 3) (omega arith) (omega arith))
    ∙ bits_of-next bytes (i + 3) (i + 4) (omega arith) (omega arith))))))

-- at the end all bytes are in
pub whole_list : (bytes : List ℕ) (i r : ℕ) → length bytes ≤ i → IsRemainder (bits_of (take i bytes)) r → IsRemainder (bits_of bytes) r
whole_list bytes i r h a = subst (λ (l : List ℕ). IsRemainder (bits_of l) r) (take_all i bytes h) a

-- ---- the last bit turned
one_alone : IsRemainder (bits 1 1) 0x8005
unfolding copies bits add xor
one_alone = record { fits = omega arith; picked = true ∷ []; sum = refl }

one_more : add (bits 0 1) (bits 1 1) ≡ bits 1 1
unfolding bits add xor
one_more = refl

pub last_bit_turned : (l : List Bool) (r : ℕ) → IsRemainder (l ++ bits 0 1) r → IsRemainder (l ++ bits 1 1) (bit_xor r 0x8005)
last_bit_turned l r a =
    let z = zeros (length l) in
    let lz : length z ≡ length l = length-replicate (length l) false in
    let long : length (l ++ bits 0 1) ≡ length (z ++ bits 1 1) = omega (arith, length-append l (bits 0 1), length-append z (bits 1 1), length-bits 0 1, length-bits 1 1, lz) in
    let whole : add (l ++ bits 0 1) (z ++ bits 1 1) ≡ l ++ bits 1 1 = add-append l z (bits 0 1) (bits 1 1) (sym lz) ∙ ap₂ (λ x y. x ++ y) (add-zeros_behind l (length l) refl) one_more in
    subst (λ (x : List Bool). IsRemainder x (bit_xor r 0x8005)) whole (sums (l ++ bits 0 1) (z ++ bits 1 1) r 0x8005 a (after_zeros (length l) (bits 1 1) 0x8005 one_alone) long)
