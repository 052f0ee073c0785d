-- Laws of bits, for this crate and those above.
use Rattle.std.proofs.Common.{◌≡◌, ℕ, zero, suc, ◌+◌, ◌-◌, ◌*◌, ◌/◌, ◌%◌, ◌^◌, ◌<◌, ◌≤◌, ◌==◌, Bool, true, false, List, [], ◌∷◌, ◌++◌, length, take, drop, refl, ap, sym, ◌∙◌, append_assoc, set, get_or, arith, mod-eq_of_lt, add-suc, add-zero, length-append, length-drop, subst}
use Rattle.std.proofs.Math.Nat.{pow-suc, pow-le-pow_right}
use Rattle.std.proofs.lemmas.Nat.{pow_pos, pow-add, shr_split, shl_whole, mul-le, mod_below, shr_below}
use Rattle.std.proofs.lemmas.List.{append-nil, take_at, drop_at, take_more_set, length-take-le, drop_more}
use Rattle.std.proofs.Math.Seq.{take-append-add}
use Rattle.std.proofs.lemmas.Grind.{common_steps}
use Rattle.ac_bits.specs.Bits.{bits, num, bit, is_odd, bits_of, Appends}

pub length-bits : (v w : ℕ) → length (bits v w) ≡ w
unfolding bits
length-bits v zero = refl
length-bits v (suc w) = rw (length-append) (omega (arith, length-bits (v / 2) w))

halves : (a w v : ℕ) → v < 2 ^ suc w → ((a * 2 ^ suc w + v) / 2 ≡ a * 2 ^ w + v / 2) × ((a * 2 ^ suc w + v) % 2 ≡ v % 2) × (v / 2 < 2 ^ w)
halves a w v h =
    let e : 2 ^ suc w ≡ 2 * 2 ^ w = pow-suc 2 w ∙ (omega arith) in
    let f : a * 2 ^ suc w ≡ 2 * (a * 2 ^ w) = ap (λ x. a * x) e ∙ (omega arith) in
    (omega arith, omega arith, omega arith)

-- bits of a number in two parts
pub bits-join : (a u w v : ℕ) → v < 2 ^ w → bits (a * 2 ^ w + v) (u + w) ≡ bits a u ++ bits v w
unfolding bits
bits-join a u zero v h =
    let e : a * 1 + v ≡ a = omega arith in
    ap (λ n. bits n (u + 0)) e ∙ (rw add-zero (sym (append-nil (bits a u))))
bits-join a u (suc w) v h =
    let hs = halves a w v h in
    let x = a * 2 ^ suc w + v in
    let low : is_odd x ≡ is_odd v = ap (λ n. n == 1) hs.1 in
    ap (bits x) (add-suc u w)
    ∙ (ap (λ n. bits n (u + w) ++ is_odd x ∷ []) hs.0
    ∙ (ap (λ b. bits (a * 2 ^ w + v / 2) (u + w) ++ b ∷ []) low
    ∙ (ap (λ l. l ++ is_odd v ∷ []) (bits-join a u w (v / 2) hs.2) ∙ append_assoc (bits a u) (bits (v / 2) w) (is_odd v ∷ []))))

-- the same, from the whole
pub bits-split : (n u w : ℕ) → bits n (u + w) ≡ bits (n / 2 ^ w) u ++ bits (n % 2 ^ w) w
bits-split n u w =
    ap (λ m. bits m (u + w)) (sym (shr_split n w)) ∙ bits-join (n / 2 ^ w) u w (n % 2 ^ w) (mod_below n (2 ^ w) (pow_pos w))

-- the number of two parts
pub num-append : (a b : List Bool) → num (a ++ b) ≡ num a * 2 ^ length b + num b
unfolding num
num-append [] b = omega arith
num-append (x ∷ a) b =
    let e : 2 ^ length (a ++ b) ≡ 2 ^ length a * 2 ^ length b = ap (λ n. 2 ^ n) (length-append a b) ∙ pow-add 2 (length a) (length b) in
    rw (e, num-append a b) (omega arith)

odd_bit : (v : ℕ) → bit (is_odd v) ≡ v % 2
odd_bit v = grind (arith, common_steps)

-- a number that fits is spelled by its bits
pub num-bits : (v w : ℕ) → v < 2 ^ w → num (bits v w) ≡ v
unfolding bits num
num-bits v zero h = omega arith
num-bits v (suc w) h =
    let e : 2 ^ suc w ≡ 2 * 2 ^ w = pow-suc 2 w ∙ (omega arith) in
    let ih = num-bits (v / 2) w (omega arith) in
    num-append (bits (v / 2) w) (is_odd v ∷ []) ∙ (omega (arith, ih, odd_bit v))

-- two spellings of one width
pub bits_same : (v w w' : ℕ) (x y : List Bool) → v < 2 ^ w → w' < 2 ^ w → bits v w ++ x ≡ bits w' w ++ y → (v ≡ w') × (x ≡ y)
bits_same v w w' x y h h' e =
    let front : bits v w ≡ bits w' w = sym (take_at (bits v w) x w (length-bits v w)) ∙ (ap (take w) e ∙ take_at (bits w' w) y w (length-bits w' w)) in
    let back : x ≡ y = sym (drop_at (bits v w) x w (length-bits v w)) ∙ (ap (drop w) e ∙ drop_at (bits w' w) y w (length-bits w' w)) in
    (sym (num-bits v w h) ∙ (ap num front ∙ num-bits w' w h'), back)

pub bits_of-append : (a b : List ℕ) → bits_of (a ++ b) ≡ bits_of a ++ bits_of b
bits_of-append [] b = refl
bits_of-append (x ∷ a) b = ap (λ l. bits x 8 ++ l) (bits_of-append a b) ∙ sym (append_assoc (bits x 8) (bits_of a) (bits_of b))

pub length-bits_of : (a : List ℕ) → length (bits_of a) ≡ 8 * length a
length-bits_of [] = refl
length-bits_of (x ∷ a) = rw length-append (omega (arith, length-bits x 8, length-bits_of a))

pub bits-zero : (v : ℕ) → bits v 0 ≡ []
unfolding bits
bits-zero v = refl

-- one byte leaves the front of what is held
pub flush_step : (buf : List ℕ) (full held used : ℕ) → full < length buf → 8 ≤ used → bits_of (take (full + 1) (set buf full (held / 2 ^ (used - 8)))) ++ bits (held % 2 ^ (used - 8)) (used - 8) ≡ bits_of (take full buf) ++ bits held used
flush_step buf full held used h k =
    let u = used - 8 in
    let b = held / 2 ^ u in
    let e : 8 + u ≡ used = omega arith in
    ap (λ l. bits_of l ++ bits (held % 2 ^ u) u) (take_more_set buf full b h)
    ∙ (ap (λ l. l ++ bits (held % 2 ^ u) u) (bits_of-append (take full buf) (b ∷ []))
    ∙ (append_assoc (bits_of (take full buf)) (bits b 8 ++ []) (bits (held % 2 ^ u) u)
    ∙ ap (λ l. bits_of (take full buf) ++ l)
    (ap (λ l. l ++ bits (held % 2 ^ u) u) (append-nil (bits b 8))
    ∙ (sym (bits-split held 8 u) ∙ ap (bits held) e))))

-- the view's length
pub length-view : (buf : List ℕ) (full held used : ℕ) → full ≤ length buf → length (bits_of (take full buf) ++ bits held used) ≡ 8 * full + used
length-view buf full held used h = rw length-append (omega (arith, length-bits_of (take full buf), length-bits held used, length-take-le full buf h))

-- what is put joins what is held
pub put_joins : (front : List Bool) (held used value width : ℕ) → value < 2 ^ width → front ++ bits (held * 2 ^ width + value) (used + width) ≡ (front ++ bits held used) ++ bits value width
put_joins front held used value width h = ap (λ l. front ++ l) (bits-join held used width value h) ∙ sym (append_assoc front (bits held used) (bits value width))

-- what is left when the whole bytes above are taken off
pub low_left : (held u : ℕ) → held < 2 ^ 64 → held - (held / 2 ^ u * 2 ^ u) % 2 ^ 64 ≡ held % 2 ^ u
low_left held u h =
    let s = shr_split held u in
    let m : (held / 2 ^ u * 2 ^ u) % 2 ^ 64 ≡ held / 2 ^ u * 2 ^ u = mod-eq_of_lt (omega arith) in
    rw m (omega arith)

-- what is put beside what is held fits
pub put_fits : (held used value width : ℕ) → held < 2 ^ used → value < 2 ^ width → used + width ≤ 64 → (held * 2 ^ width % 2 ^ 64 ≡ held * 2 ^ width) × (held * 2 ^ width % 2 ^ 64 + value < 2 ^ (used + width))
put_fits held used value width h k w =
    let whole = shl_whole held used width 64 h (omega arith) in
    let e = pow-add 2 used width in
    let b : (held + 1) * 2 ^ width ≤ 2 ^ used * 2 ^ width = mul-le (held + 1) (2 ^ width) (2 ^ used) (2 ^ width) (omega arith) (omega arith) in
    (whole, rw (whole, e) (omega arith))

-- the top byte of what is held
pub top_byte : (held used : ℕ) → held < 2 ^ used → 8 ≤ used → held / 2 ^ (used - 8) < 2 ^ 8
top_byte held used h k =
    let e : used ≡ 8 + (used - 8) = omega arith in
    shr_below held 8 (used - 8) (subst (λ (n : ℕ). held < 2 ^ n) e h)

-- one byte joins what is held
pub fill_step : (bytes : List ℕ) (at held have : ℕ) → at < length bytes → get_or bytes at 0 < 2 ^ 8 → bits (held * 2 ^ 8 + get_or bytes at 0) (have + 8) ++ bits_of (drop (at + 1) bytes) ≡ bits held have ++ bits_of (drop at bytes)
fill_step bytes at held have h k =
    let b = get_or bytes at 0 in
    ap (λ l. l ++ bits_of (drop (at + 1) bytes)) (bits-join held have 8 b k)
    ∙ (append_assoc (bits held have) (bits b 8) (bits_of (drop (at + 1) bytes))
    ∙ ap (λ l. bits held have ++ bits_of l) (sym (drop_more bytes at 0 h)))

take_over : (v more : List Bool) (left width : ℕ) → length v ≡ width → width ≤ left → take left (v ++ more) ≡ v ++ take (left - width) more
take_over v more left width e h =
    let f : left ≡ length v + (left - width) = omega arith in
    ap (λ n. take n (v ++ more)) f ∙ take-append-add v more (left - width)

-- what is taken from the front of what is held
pub take_step : (left held have width : ℕ) (rest : List Bool) → width ≤ left → width ≤ have → take left (bits held have ++ rest) ≡ bits (held / 2 ^ (have - width)) width ++ take (left - width) (bits (held % 2 ^ (have - width)) (have - width) ++ rest)
take_step left held have width rest h k =
    let u = have - width in
    let e : width + u ≡ have = omega arith in
    let v = bits (held / 2 ^ u) width in
    let more = bits (held % 2 ^ u) u ++ rest in
    let split : bits held have ≡ v ++ bits (held % 2 ^ u) u = sym (ap (bits held) e) ∙ bits-split held width u in
    ap (λ l. take left (l ++ rest)) split
    ∙ (ap (take left) (append_assoc v (bits (held % 2 ^ u) u) rest)
    ∙ take_over v more left width (length-bits (held / 2 ^ u) width) h)

-- how many bits are to come
pub length-to_come : (left held have at : ℕ) (bytes : List ℕ) → at ≤ length bytes → left ≤ have + 8 * (length bytes - at) → length (take left (bits held have ++ bits_of (drop at bytes))) ≡ left
length-to_come left held have at bytes h k =
    let n : length (bits held have ++ bits_of (drop at bytes)) ≡ have + 8 * (length bytes - at) =
    rw length-append (omega (arith, length-bits held have, length-bits_of (drop at bytes), length-drop at bytes)) in
    length-take-le left (bits held have ++ bits_of (drop at bytes)) (omega arith)

-- a number that is taken fits
pub top_fits : (held have width : ℕ) → held < 2 ^ have → width ≤ have → held / 2 ^ (have - width) < 2 ^ width
top_fits held have width h k =
    let e : have ≡ width + (have - width) = omega arith in
    shr_below held width (have - width) (subst (λ (n : ℕ). held < 2 ^ n) e h)

below_word : (n k : ℕ) → n < 2 ^ k → k ≤ 64 → n < 2 ^ 64
below_word n k h w = let two : 0 < 2 = omega arith in omega (arith, pow-le-pow_right two w)

-- `take` as the code does it
pub taken : (left held have width : ℕ) (rest : List Bool) → held < 2 ^ have → width ≤ left → width ≤ have → have ≤ 64 → take left (bits held have ++ rest) ≡ bits (held / 2 ^ (have - width)) width ++ take (left - width) (bits (held - (held / 2 ^ (have - width) * 2 ^ (have - width)) % 2 ^ 64) (have - width) ++ rest)
taken left held have width rest h l k w =
    let u = have - width in
    rw (low_left held u (below_word held have h w)) (take_step left held have width rest l k)

pub num_below : (l : List Bool) → num l < 2 ^ length l
unfolding num
num_below [] = omega arith
num_below (true ∷ l) = rw (pow-suc 2 (length l)) (omega (arith, num_below l))
num_below (false ∷ l) = rw (pow-suc 2 (length l)) (omega (arith, num_below l))

one_bit : (b : Bool) → bits (bit b) 1 ≡ b ∷ []
unfolding bits
one_bit true = refl
one_bit false = refl

-- the list of so many bits with this number is one
pub bits-num : (l : List Bool) → bits (num l) (length l) ≡ l
unfolding num bits
bits-num [] = refl
bits-num (b ∷ l) =
    let e : suc (length l) ≡ 1 + length l = omega arith in
    ap (bits (bit b * 2 ^ length l + num l)) e
    ∙ (bits-join (bit b) 1 (length l) (num l) (num_below l)
    ∙ (ap (λ x. x ++ bits (num l) (length l)) (one_bit b) ∙ ap (λ x. b ∷ x) (bits-num l)))

-- ---- what is appended in order
pub appends-then : {a b c x y : List Bool} → Appends a b x → Appends b c y → Appends a c (x ++ y)
appends-then {a} {b} {c} {x} {y} p q = record { whole = q.whole ∙ (ap (λ l. l ++ y) p.whole ∙ append_assoc a x y) }

pub appends-none : (a : List Bool) → Appends a a []
appends-none a = record { whole = sym (append-nil a) }

pub length-appends : {a b x : List Bool} → Appends a b x → length b ≡ length a + length x
length-appends {a} {b} {x} p = ap length p.whole ∙ length-append a x
