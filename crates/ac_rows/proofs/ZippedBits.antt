-- Loops that write two rows that alternate.
use Rattle.std.proofs.Common.{◌≡◌, ℕ, zero, suc, ◌+◌, ◌<◌, ◌≤◌, Bool, Option, List, [], ◌∷◌, ◌++◌, length, take, get_or, refl, ap, ◌∙◌}
use Rattle.std.proofs.Common.{arith}
use Rattle.ac_codec.specs.Codec.{given, field, pair, fitted}
use Rattle.ac_codec.specs.Lists.{spelled_each}
use Rattle.ac_codec.proofs.Spelling.{spelled_each-more, next_fits}
use Rattle.ac_rows.specs.BlockRows.{zipped, offset_each, coordinate_each, alternating}
use Rattle.ac_rows.specs.Bits.{offset_bits, coordinate_bits}
use Rattle.ac_rows.proofs.EachBits.{each_bits}

pub length-zipped : {A B : Type 0} (xs : List A) (ys : List B) → length (zipped xs ys) ≤ length xs
length-zipped [] ys = omega arith
length-zipped (x ∷ xs) [] = omega arith
length-zipped (x ∷ xs) (y ∷ ys) = let h = length-zipped xs ys in omega arith

same-zipped : {A B : Type 0} (xs : List A) (ys : List B) → length xs ≡ length ys → length (zipped xs ys) ≡ length xs
same-zipped [] ys h = refl
same-zipped (x ∷ xs) [] h = absurd (omega (arith, h))
same-zipped (x ∷ xs) (y ∷ ys) h = let k = same-zipped xs ys (omega (arith, h)) in ap suc k

take-zipped : {A B : Type 0} (n : ℕ) (xs : List A) (ys : List B) → zipped (take n xs) (take n ys) ≡ take n (zipped xs ys)
take-zipped zero xs ys = refl
take-zipped (suc n) [] ys = refl
take-zipped (suc n) (x ∷ xs) [] = refl
take-zipped (suc n) (x ∷ xs) (y ∷ ys) = ap (λ l. (x, y) ∷ l) (take-zipped n xs ys)

pub get-zipped : {A B : Type 0} (i : ℕ) (xs : List A) (ys : List B) (d : A) (e : B) → i < length xs → i < length ys
    → get_or (zipped xs ys) i (d, e) ≡ (get_or xs i d, get_or ys i e)
get-zipped i [] ys d e h k = absurd (omega arith)
get-zipped i (x ∷ xs) [] d e h k = absurd (omega arith)
get-zipped zero (x ∷ xs) (y ∷ ys) d e h k = refl
get-zipped (suc i) (x ∷ xs) (y ∷ ys) d e h k = get-zipped i xs ys d e (omega arith) (omega arith)

-- one more of both
pub zipped-more : {A B : Type 0} (f : A × B → List Bool) (xs : List A) (ys : List B) (i : ℕ) (d : A) (e : B) → i < length xs
    → length xs ≡ length ys
    → spelled_each f (take (i + 1) (zipped xs ys)) ≡ spelled_each f (take i (zipped xs ys)) ++ f (get_or xs i d, get_or ys i e)
zipped-more f xs ys i d e h k =
    let n = same-zipped xs ys k in
    spelled_each-more f (zipped xs ys) i (d, e) (omega (arith, n))
    ∙ ap (λ p. spelled_each f (take i (zipped xs ys)) ++ f p) (get-zipped i xs ys d e h (omega (arith, k)))

-- for which there is room
pub zipped_fits : {A B : Type 0} (f : A × B → List Bool) (xs : List A) (ys : List B) (i : ℕ) (d : A) (e : B) → i < length xs
    → length xs ≡ length ys
    → length (spelled_each f (take i (zipped xs ys))) + length (f (get_or xs i d, get_or ys i e)) ≤ length (spelled_each f (zipped xs ys))
zipped_fits f xs ys i d e h k =
    let n = same-zipped xs ys k in
    let r = next_fits f (zipped xs ys) i (d, e) (omega (arith, n)) in
    let s : length (f (get_or (zipped xs ys) i (d, e))) ≡ length (f (get_or xs i d, get_or ys i e)) =
    ap (λ p. length (f p)) (get-zipped i xs ys d e h (omega (arith, k))) in
    omega (arith, r, s)

take_past : {X : Type 0} (n : ℕ) (xs : List X) → length xs ≤ n → take n xs ≡ xs
take_past zero [] h = refl
take_past zero (x ∷ xs) h = absurd (omega arith)
take_past (suc n) [] h = refl
take_past (suc n) (x ∷ xs) h = ap (λ l. x ∷ l) (take_past n xs (omega arith))

-- all of them
pub zipped_all : {A B : Type 0} (f : A × B → List Bool) (xs : List A) (ys : List B) (i : ℕ) → length xs ≤ i
    → spelled_each f (take i (zipped xs ys)) ≡ spelled_each f (zipped xs ys)
zipped_all f xs ys i h = ap (spelled_each f) (take_past i (zipped xs ys) (omega (arith, length-zipped xs ys)))

pub offsets_bits : (full : ℕ) (xs ys : List (Option ℕ)) → length xs ≡ 5
    → (offset_each full).spell (xs, ys) ≡ spelled_each offset_bits (zipped xs ys)
unfolding offset_each alternating fitted pair given field
offsets_bits full xs ys h = each_bits 5 0 _ offset_bits (zipped xs ys) (λ k x. refl) (omega (arith, h, length-zipped xs ys))

pub coordinates_bits : (bands : ℕ) (xs ys : List (Option ℕ)) → length xs ≡ 18
    → (coordinate_each bands).spell (xs, ys) ≡ spelled_each coordinate_bits (zipped xs ys)
unfolding coordinate_each alternating fitted pair given field
coordinates_bits bands xs ys h = each_bits 18 0 _ coordinate_bits (zipped xs ys) (λ k x. refl) (omega (arith, h, length-zipped xs ys))

-- a place that is there has no need of a default
pub get_or_any : {X : Type 0} (xs : List X) (i : ℕ) (d e : X) → i < length xs → get_or xs i d ≡ get_or xs i e
get_or_any [] i d e h = absurd (omega arith)
get_or_any (x ∷ xs) zero d e h = refl
get_or_any (x ∷ xs) (suc i) d e h = get_or_any xs i d e (omega arith)
