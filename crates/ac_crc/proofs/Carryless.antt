-- Sums without carries, and the copies that they pick.
use Rattle.std.proofs.Common.{◌≡◌, ℕ, zero, suc, ◌+◌, ◌/◌, ◌%◌, ◌<◌, ◌≤◌, ◌==◌, Bool, true, false, List, [], ◌∷◌, ◌++◌, length, refl, ap, sym, ◌∙◌, arith, append_assoc, take, drop, length-append, length-drop}
use Rattle.std.proofs.Math.Bool.{xor}
use Rattle.std.proofs.Math.Path.{ap₂}
use Rattle.std.proofs.lemmas.List.{length-take-le, length-replicate, replicate-append-replicate, drop-drop}
use Rattle.std.proofs.lemmas.Nat.{xor_shr, xor_mod}
use Rattle.std.specs.Prelude.{bit_xor}
use Rattle.ac_bits.specs.Bits.{bits, is_odd}
use Rattle.ac_bits.proofs.Laws.{length-bits}
use Rattle.ac_crc.specs.Remainder.{add, zeros, generator, copies}

-- lists of one length are added part by part
pub add-append : (a b x y : List Bool) → length a ≡ length b → add (a ++ x) (b ++ y) ≡ add a b ++ add x y
unfolding add
add-append [] [] x y e = refl
add-append [] (c ∷ b) x y e = absurd (omega arith)
add-append (c ∷ a) [] x y e = absurd (omega arith)
add-append (c ∷ a) (d ∷ b) x y e = ap (λ l. xor c d ∷ l) (add-append a b x y (omega arith))

pub length-add : (a b : List Bool) → length a ≡ length b → length (add a b) ≡ length b
unfolding add
length-add [] b e = refl
length-add (c ∷ a) [] e = e
length-add (c ∷ a) (d ∷ b) e = ap suc (length-add a b (omega arith))

pub add-zeros : (n : ℕ) (a : List Bool) → length a ≡ n → add (zeros n) a ≡ a
unfolding add xor
add-zeros zero a e = refl
add-zeros (suc n) [] e = absurd (omega arith)
add-zeros (suc n) (false ∷ a) e = ap (λ l. false ∷ l) (add-zeros n a (omega arith))
add-zeros (suc n) (true ∷ a) e = ap (λ l. true ∷ l) (add-zeros n a (omega arith))

pub length-copies : (q : List Bool) → length (copies q) ≡ length q + 16
unfolding copies
length-copies [] = refl
length-copies (false ∷ q) = omega (arith, length-copies q)
length-copies (true ∷ q) =
    let n : length (generator ++ zeros (length q)) ≡ 17 + length q = length-append generator (zeros (length q)) ∙ ap (λ k. 17 + k) (length-replicate (length q) false) in
    length-add (generator ++ zeros (length q)) (false ∷ copies q) (omega (arith, n, length-copies q)) ∙ (omega (arith, length-copies q))

xor-assoc : (x y z : Bool) → xor (xor x y) z ≡ xor x (xor y z)
unfolding xor
xor-assoc true true true = refl
xor-assoc true true false = refl
xor-assoc true false true = refl
xor-assoc true false false = refl
xor-assoc false true true = refl
xor-assoc false true false = refl
xor-assoc false false true = refl
xor-assoc false false false = refl

xor-comm : (x y : Bool) → xor x y ≡ xor y x
unfolding xor
xor-comm true true = refl
xor-comm true false = refl
xor-comm false true = refl
xor-comm false false = refl

add-assoc : (a b c : List Bool) → add (add a b) c ≡ add a (add b c)
unfolding add
add-assoc [] b c = refl
add-assoc (x ∷ a) [] c = refl
add-assoc (x ∷ a) (y ∷ b) [] = refl
add-assoc (x ∷ a) (y ∷ b) (z ∷ c) = ap (λ h. h ∷ add (add a b) c) (xor-assoc x y z) ∙ ap (λ l. xor x (xor y z) ∷ l) (add-assoc a b c)

pub add-comm : (a b : List Bool) → add a b ≡ add b a
unfolding add
add-comm [] [] = refl
add-comm [] (y ∷ b) = refl
add-comm (x ∷ a) [] = refl
add-comm (x ∷ a) (y ∷ b) = ap (λ h. h ∷ add a b) (xor-comm x y) ∙ ap (λ l. xor y x ∷ l) (add-comm a b)

odd_cases : (x a b : ℕ) → a < 2 → b < 2 → x % 2 ≡ bit_xor a b → (x % 2 == 1) ≡ xor (a == 1) (b == 1)
unfolding xor
odd_cases x zero zero h k e = ap (λ n. n == 1) e
odd_cases x zero (suc zero) h k e = ap (λ n. n == 1) e
odd_cases x (suc zero) zero h k e = ap (λ n. n == 1) e
odd_cases x (suc zero) (suc zero) h k e = ap (λ n. n == 1) e
odd_cases x (suc (suc a)) b h k e = absurd (omega arith)
odd_cases x zero (suc (suc b)) h k e = absurd (omega arith)
odd_cases x (suc zero) (suc (suc b)) h k e = absurd (omega arith)

odd-xor : (x y : ℕ) → is_odd (bit_xor x y) ≡ xor (is_odd x) (is_odd y)
odd-xor x y = odd_cases (bit_xor x y) (x % 2) (y % 2) (omega arith) (omega arith) (xor_mod x y 1)

pub bits-xor : (x y w : ℕ) → bits (bit_xor x y) w ≡ add (bits x w) (bits y w)
unfolding bits add
bits-xor x y zero = refl
bits-xor x y (suc w) =
    ap (λ n. bits n w ++ is_odd (bit_xor x y) ∷ []) (xor_shr x y 1)
    ∙ (ap (λ l. l ++ is_odd (bit_xor x y) ∷ []) (bits-xor (x / 2) (y / 2) w)
    ∙ (ap (λ b. add (bits (x / 2) w) (bits (y / 2) w) ++ b ∷ []) (odd-xor x y)
    ∙ sym (add-append (bits (x / 2) w) (bits (y / 2) w) (is_odd x ∷ []) (is_odd y ∷ []) (length-bits (x / 2) w ∙ sym (length-bits (y / 2) w)))))

take-add_lists : (n : ℕ) (a b : List Bool) → take n (add a b) ≡ add (take n a) (take n b)
unfolding add
take-add_lists zero a b = refl
take-add_lists (suc n) [] b = refl
take-add_lists (suc n) (x ∷ a) [] = refl
take-add_lists (suc n) (x ∷ a) (y ∷ b) = ap (λ l. xor x y ∷ l) (take-add_lists n a b)

add-self : (a : List Bool) → add a a ≡ zeros (length a)
unfolding add xor
add-self [] = refl
add-self (true ∷ a) = ap (λ l. false ∷ l) (add-self a)
add-self (false ∷ a) = ap (λ l. false ∷ l) (add-self a)

-- what is added twice goes away
pub back : (a x : List Bool) → length a ≡ length x → add a (add a x) ≡ x
back a x h = sym (add-assoc a a x) ∙ (ap (λ l. add l x) (add-self a) ∙ add-zeros (length a) x (sym h))

cancel : (a x y : List Bool) → length a ≡ length x → length a ≡ length y → add a x ≡ add a y → x ≡ y
cancel a x y h k e = sym (back a x h) ∙ (ap (add a) e ∙ back a y k)

add-nil : (a : List Bool) → add a [] ≡ a
unfolding add
add-nil [] = refl
add-nil (x ∷ a) = refl

drop-add_lists : (n : ℕ) (a b : List Bool) → drop n (add a b) ≡ add (drop n a) (drop n b)
unfolding add
drop-add_lists zero a b = refl
drop-add_lists (suc n) [] b = refl
drop-add_lists (suc n) (x ∷ a) [] = sym (add-nil (drop n a))
drop-add_lists (suc n) (x ∷ a) (y ∷ b) = drop-add_lists n a b

-- ---- sums of copies
placed : ℕ → List Bool
placed n = generator ++ zeros n

length-placed : (n : ℕ) → length (placed n) ≡ 17 + n
unfolding placed
length-placed n = length-append generator (zeros n) ∙ ap (λ k. 17 + k) (length-replicate n false)

copies-picked : (q : List Bool) → copies (true ∷ q) ≡ add (placed (length q)) (false ∷ copies q)
unfolding copies placed
copies-picked q = refl

copies-passed : (q : List Bool) → copies (false ∷ q) ≡ false ∷ copies q
unfolding copies
copies-passed q = refl

add-falses : (a b : List Bool) → add (false ∷ a) (false ∷ b) ≡ false ∷ add a b
unfolding add xor
add-falses a b = refl

zeros-more : (m n : ℕ) → zeros m ++ zeros n ≡ zeros (m + n)
zeros-more m n = replicate-append-replicate m n false

placed-more : (m n : ℕ) → placed m ++ zeros n ≡ placed (m + n)
unfolding placed
placed-more m n = append_assoc generator (zeros m) (zeros n) ∙ ap (λ z. generator ++ z) (zeros-more m n)

copies-none : (n : ℕ) → copies (zeros n) ≡ zeros (16 + n)
unfolding copies
copies-none zero = refl
copies-none (suc n) = ap (λ l. false ∷ l) (copies-none n) ∙ ap zeros (let e : suc (16 + n) ≡ 16 + suc n = omega arith in e)

-- places behind
pub copies-zeros : (q : List Bool) (n : ℕ) → copies (q ++ zeros n) ≡ copies q ++ zeros n
unfolding copies
copies-zeros [] n = copies-none n ∙ sym (zeros-more 16 n)
copies-zeros (false ∷ q) n = ap (λ l. false ∷ l) (copies-zeros q n)
copies-zeros (true ∷ q) n =
    let long : length (q ++ zeros n) ≡ length q + n = length-append q (zeros n) ∙ ap (λ k. length q + k) (length-replicate n false) in
    let same : length (placed (length q)) ≡ length (false ∷ copies q) = omega (arith, length-placed (length q), length-copies q) in
    copies-picked (q ++ zeros n)
    ∙ (ap₂ (λ k l. add (placed k) (false ∷ l)) long (copies-zeros q n)
    ∙ (ap (λ z. add z (false ∷ (copies q ++ zeros n))) (sym (placed-more (length q) n))
    ∙ (add-append (placed (length q)) (false ∷ copies q) (zeros n) (zeros n) same
    ∙ (ap (λ z. add (placed (length q)) (false ∷ copies q) ++ z) (add-zeros n (zeros n) (length-replicate n false))
    ∙ ap (λ l. l ++ zeros n) (sym (copies-picked q))))))

one_flipped : (g a b : List Bool) → add (add g a) b ≡ add g (add a b)
one_flipped = add-assoc

other_flipped : (g a b : List Bool) → add a (add g b) ≡ add g (add a b)
other_flipped g a b = add-comm a (add g b) ∙ (add-assoc g b a ∙ ap (add g) (add-comm b a))

both_flipped : (g a b : List Bool) → length g ≡ length a → length a ≡ length b → add (add g a) (add g b) ≡ add a b
both_flipped g a b h k = one_flipped g a (add g b) ∙ (ap (add g) (other_flipped g a b) ∙ back g (add a b) (h ∙ (k ∙ sym (length-add a b k))))

-- the copies of a sum
pub copies-add : (p q : List Bool) → length p ≡ length q → copies (add p q) ≡ add (copies p) (copies q)
unfolding add xor copies
copies-add [] [] n = sym (add-zeros 16 (copies []) (length-copies []))
copies-add [] (y ∷ q) n = absurd (omega arith)
copies-add (x ∷ p) [] n = absurd (omega arith)
copies-add (false ∷ p) (false ∷ q) n =
    copies-passed (add p q) ∙ (ap (λ l. false ∷ l) (copies-add p q (omega arith)) ∙ (sym (add-falses (copies p) (copies q)) ∙ sym (ap₂ add (copies-passed p) (copies-passed q))))
copies-add (true ∷ p) (false ∷ q) n =
    let m : length p ≡ length q = omega arith in
    copies-picked (add p q)
    ∙ (ap₂ (λ k l. add (placed k) (false ∷ l)) (length-add p q m ∙ sym m) (copies-add p q m)
    ∙ (ap (add (placed (length p))) (sym (add-falses (copies p) (copies q)))
    ∙ (sym (one_flipped (placed (length p)) (false ∷ copies p) (false ∷ copies q)) ∙ sym (ap₂ add (copies-picked p) (copies-passed q)))))
copies-add (false ∷ p) (true ∷ q) n =
    let m : length p ≡ length q = omega arith in
    copies-picked (add p q)
    ∙ (ap₂ (λ k l. add (placed k) (false ∷ l)) (length-add p q m) (copies-add p q m)
    ∙ (ap (add (placed (length q))) (sym (add-falses (copies p) (copies q)))
    ∙ (sym (other_flipped (placed (length q)) (false ∷ copies p) (false ∷ copies q)) ∙ sym (ap₂ add (copies-passed p) (copies-picked q)))))
copies-add (true ∷ p) (true ∷ q) n =
    let m : length p ≡ length q = omega arith in
    let g = placed (length p) in
    let lg : length g ≡ length (false ∷ copies p) = omega (arith, length-placed (length p), length-copies p) in
    let lc : length (false ∷ copies p) ≡ length (false ∷ copies q) = omega (arith, length-copies p, length-copies q) in
    copies-passed (add p q)
    ∙ (ap (λ l. false ∷ l) (copies-add p q m)
    ∙ (sym (add-falses (copies p) (copies q))
    ∙ (sym (both_flipped g (false ∷ copies p) (false ∷ copies q) lg lc)
    ∙ sym (ap₂ add (copies-picked p) (copies-picked q ∙ ap (λ k. add (placed k) (false ∷ copies q)) (sym m))))))

heads : (x y : Bool) (a b : List Bool) → x ∷ a ≡ y ∷ b → (x ≡ y) × (a ≡ b)
heads x y a b e = (cc, cc)

abbrev pub lower : List Bool
lower = true ∷ false ∷ false ∷ false ∷ false ∷ false ∷ false ∷ false ∷ false ∷ false ∷ false ∷ false ∷ false ∷ true ∷ false ∷ true ∷ []

-- ---- picks from the front: the first bits of a sum tell which copies are in it
pub picks_same : (p q : List Bool) → length p ≡ length q → take (length p) (copies p) ≡ take (length q) (copies q) → p ≡ q
unfolding copies add xor
picks_same [] [] n e = refl
picks_same [] (y ∷ q) n e = absurd (omega arith)
picks_same (x ∷ p) [] n e = absurd (omega arith)
picks_same (false ∷ p) (false ∷ q) n e = ap (λ l. false ∷ l) (picks_same p q (omega arith) (heads false false _ _ e).1)
picks_same (true ∷ p) (true ∷ q) n e =
    let m : length p ≡ length q = omega arith in
    let g = lower ++ zeros (length p) in
    let same : lower ++ zeros (length q) ≡ g = ap (λ k. lower ++ zeros k) (sym m) in
    let tails : take (length p) (add g (copies p)) ≡ take (length q) (add (lower ++ zeros (length q)) (copies q)) = (heads true true (take (length p) (add g (copies p))) (take (length q) (add (lower ++ zeros (length q)) (copies q))) e).1 in
    let long : length g ≡ 16 + length p = length-append lower (zeros (length p)) ∙ ap (λ k. 16 + k) (length-replicate (length p) false) in
    let parts : add (take (length p) g) (take (length p) (copies p)) ≡ add (take (length p) g) (take (length q) (copies q)) =
    sym (take-add_lists (length p) g (copies p)) ∙ (tails ∙ (ap (λ z. take (length q) (add z (copies q))) same ∙ (take-add_lists (length q) g (copies q) ∙ ap (λ k. add (take k g) (take (length q) (copies q))) (sym m)))) in
    let lg : length (take (length p) g) ≡ length p = length-take-le (length p) g (omega (arith, long)) in
    let lp : length (take (length p) (copies p)) ≡ length p = length-take-le (length p) (copies p) (omega (arith, length-copies p)) in
    let lq : length (take (length q) (copies q)) ≡ length q = length-take-le (length q) (copies q) (omega (arith, length-copies q)) in
    ap (λ l. true ∷ l) (picks_same p q m (cancel (take (length p) g) (take (length p) (copies p)) (take (length q) (copies q)) (omega (arith, lg, lp)) (omega (arith, lg, lq, m)) parts))
picks_same (true ∷ p) (false ∷ q) n e = let h = (heads true false _ _ e).0 in absurd cc
picks_same (false ∷ p) (true ∷ q) n e = let h = (heads false true _ _ e).0 in absurd cc

-- ---- picks from the back: behind its first 16 bits a sum tells which copies are in it
copies-tail : (x : Bool) (p : List Bool) → drop 17 (copies (x ∷ p)) ≡ drop 16 (copies p)
unfolding copies
copies-tail false p = refl
copies-tail true p =
    let n : length (drop 16 (copies p)) ≡ length p = length-drop 16 (copies p) ∙ (omega (arith, length-copies p)) in
    drop-add_lists 17 (generator ++ zeros (length p)) (false ∷ copies p) ∙ add-zeros (length p) (drop 16 (copies p)) n

pub copies-drop : (n : ℕ) (p : List Bool) → n ≤ length p → drop (16 + n) (copies p) ≡ drop 16 (copies (drop n p))
copies-drop zero p h = refl
copies-drop (suc n) [] h = absurd (omega arith)
copies-drop (suc n) (x ∷ p) h =
    let e : 16 + suc n ≡ 17 + n = omega arith in
    ap (λ k. drop k (copies (x ∷ p))) e
    ∙ (sym (drop-drop n 17 (copies (x ∷ p)))
    ∙ (ap (drop n) (copies-tail x p) ∙ (drop-drop n 16 (copies p) ∙ copies-drop n p (omega arith))))

flips : (w : Bool) → xor true w ≡ w → ⊥
unfolding xor
flips true e = cc
flips false e = cc

changes : (m z : List Bool) → add (true ∷ m) z ≡ z → ⊥
unfolding add
changes m [] e = cc
changes m (w ∷ z) e = flips w (heads (xor true w) w (add m z) z e).0

shows : (p : List Bool) → drop 16 (copies (true ∷ p)) ≡ drop 16 (copies (false ∷ p)) → ⊥
unfolding copies
shows p e = changes (zeros (length p)) (drop 16 (false ∷ copies p)) (sym (drop-add_lists 16 (generator ++ zeros (length p)) (false ∷ copies p)) ∙ e)

first_same : (x y : Bool) (p : List Bool) → drop 16 (copies (x ∷ p)) ≡ drop 16 (copies (y ∷ p)) → x ≡ y
first_same true true p e = refl
first_same false false p e = refl
first_same true false p e = absurd (shows p e)
first_same false true p e = absurd (shows p (sym e))

pub last_same : (p q : List Bool) → length p ≡ length q → drop 16 (copies p) ≡ drop 16 (copies q) → p ≡ q
last_same [] [] n e = refl
last_same [] (y ∷ q) n e = absurd (omega arith)
last_same (x ∷ p) [] n e = absurd (omega arith)
last_same (x ∷ p) (y ∷ q) n e =
    let next : (z : Bool) (s : List Bool) → drop 1 (drop 16 (copies (z ∷ s))) ≡ drop 16 (copies s) = λ z s. drop-drop 1 16 (copies (z ∷ s)) ∙ copies-tail z s in
    let same : p ≡ q = last_same p q (omega arith) (sym (next x p) ∙ (ap (drop 1) e ∙ next y q)) in
    let one : x ≡ y = first_same x y p (e ∙ ap (λ s. drop 16 (copies (y ∷ s))) (sym same)) in
    ap₂ (λ z s. z ∷ s) one same
