-- Bits of lists of rows, for loops that write.
use Rattle.std.proofs.Common.{◌≡◌, ℕ, zero, suc, ◌+◌, ◌-◌, ◌<◌, ◌≤◌, Bool, false, List, [], ◌∷◌, ◌++◌, length, take, drop, get_or}
use Rattle.std.proofs.Common.{replicate, refl, ap, sym, subst, ◌∙◌, arith, append_assoc, length-append}
use Rattle.std.proofs.lemmas.List.{append-nil, take_more, take-append-drop, replicate-append-replicate}
use Rattle.ac_bits.specs.Bits.{bits, Appends}
use Rattle.ac_bits.proofs.Laws.{appends-then}
use Rattle.ac_codec.specs.Lists.{spelled_each}

pub spelled_each-append : {A : Type 0} (f : A → List Bool) (xs ys : List A)
    → spelled_each f (xs ++ ys) ≡ spelled_each f xs ++ spelled_each f ys
spelled_each-append f [] ys = refl
spelled_each-append f (x ∷ xs) ys =
    ap (λ l. f x ++ l) (spelled_each-append f xs ys) ∙ sym (append_assoc (f x) (spelled_each f xs) (spelled_each f ys))

pub spelled_each-more : {A : Type 0} (f : A → List Bool) (xs : List A) (i : ℕ) (d : A) → i < length xs
    → spelled_each f (take (i + 1) xs) ≡ spelled_each f (take i xs) ++ f (get_or xs i d)
spelled_each-more f xs i d h =
    ap (spelled_each f) (take_more xs i d h)
    ∙ (spelled_each-append f (take i xs) (get_or xs i d ∷ []) ∙ ap (λ l. spelled_each f (take i xs) ++ l) (append-nil (f (get_or xs i d))))

pub length-front : {A : Type 0} (f : A → List Bool) (xs : List A) (i : ℕ) → length (spelled_each f (take i xs)) ≤ length (spelled_each f xs)
length-front f xs i =
    let e : length (spelled_each f xs) ≡ length (spelled_each f (take i xs)) + length (spelled_each f (drop i xs)) =
    ap (λ l. length (spelled_each f l)) (sym (take-append-drop i xs))
    ∙ (ap length (spelled_each-append f (take i xs) (drop i xs))
    ∙ length-append (spelled_each f (take i xs)) (spelled_each f (drop i xs))) in
    omega (arith, e)

-- there is room for the next one
pub next_fits : {A : Type 0} (f : A → List Bool) (xs : List A) (i : ℕ) (d : A) → i < length xs
    → length (spelled_each f (take i xs)) + length (f (get_or xs i d)) ≤ length (spelled_each f xs)
next_fits f xs i d h =
    let e : length (spelled_each f (take (i + 1) xs)) ≡ length (spelled_each f (take i xs)) + length (f (get_or xs i d)) =
    ap length (spelled_each-more f xs i d h) ∙ length-append (spelled_each f (take i xs)) (f (get_or xs i d)) in
    omega (arith, e, length-front f xs (i + 1))

-- zeros
pub bits-zeros : (w : ℕ) → bits 0 w ≡ replicate w false
unfolding bits
bits-zeros zero = refl
bits-zeros (suc w) =
    let e : w + 1 ≡ suc w = omega arith in
    ap (λ l. l ++ false ∷ []) (bits-zeros w) ∙ (replicate-append-replicate w 1 false ∙ ap (λ n. replicate n false) e)

pub zeros-more : {a b c : List Bool} (count more w : ℕ) → more ≤ count → w ≤ more → Appends a b (replicate (count - more) false)
    → Appends b c (bits 0 w) → Appends a c (replicate (count - (more - w)) false)
zeros-more {a} {b} {c} count more w h k x y =
    let e : replicate (count - more) false ++ bits 0 w ≡ replicate (count - (more - w)) false =
    ap (λ l. replicate (count - more) false ++ l) (bits-zeros w)
    ∙ (replicate-append-replicate (count - more) w false ∙ ap (λ n. replicate n false) (omega arith)) in
    subst (Appends a c) e (appends-then x y)
