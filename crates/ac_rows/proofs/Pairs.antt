-- Loops over two rows that alternate.
use Rattle.std.proofs.Common.{◌≡◌, ℕ, ◌+◌, ◌<◌, List, [], ◌∷◌, ◌++◌, length, take, set, nat_lt, Bool, Option, Ok, Err, refl, ap, sym, ◌∙◌}
use Rattle.std.proofs.Common.{arith}
use Rattle.std.proofs.lemmas.List.{take_more_set, length-take-le}
use Rattle.ac_codec.specs.declared.refused.Refused.{Refused}
use Rattle.ac_codec.specs.Codec.{Codec, field, any, given, pair, fitted, each}
use Rattle.ac_rows.specs.BlockRows.{firsts, seconds, zipped, alternating, coordinate_each}

abbrev pub two : ℕ → ℕ → Codec (Option ℕ × Option ℕ)
two bands k = pair (given (nat_lt k bands) (field 4 any)) (λ _. given (nat_lt k bands) (field 4 any))

zipped_more : {A B : Type 0} (xs : List A) (ys : List B) (a : A) (b : B) → length xs ≡ length ys
    → zipped (xs ++ a ∷ []) (ys ++ b ∷ []) ≡ zipped xs ys ++ (a, b) ∷ []
zipped_more [] [] a b h = refl
zipped_more [] (y ∷ ys) a b h = absurd (omega (arith, h))
zipped_more (x ∷ xs) [] a b h = absurd (omega (arith, h))
zipped_more (x ∷ xs) (y ∷ ys) a b h = ap (λ l. (x, y) ∷ l) (zipped_more xs ys a b (omega (arith, h)))

-- one entry more of both
pub zipped_set : {A B : Type 0} (xs : List A) (ys : List B) (k : ℕ) (a : A) (b : B) → k < length xs → k < length ys
    → zipped (take (k + 1) (set xs k a)) (take (k + 1) (set ys k b)) ≡ zipped (take k xs) (take k ys) ++ (a, b) ∷ []
zipped_set xs ys k a b h g =
    rw (take_more_set xs k a h, take_more_set ys k b g)
    (zipped_more (take k xs) (take k ys) a b (length-take-le k xs (omega arith) ∙ sym (length-take-le k ys (omega arith))))

-- reading two rows
pub two_read : (c d : Codec (Option ℕ)) (l mid rest : List Bool) (a b : Option ℕ) → c.read l ≡ Ok (a, mid) → d.read mid ≡ Ok (b, rest)
    → (pair c (λ _. d)).read l ≡ Ok ((a, b), rest)
unfolding pair
two_read c d l mid rest a b e f = rw (e, f) refl

pub two_first : (c d : Codec (Option ℕ)) (l at : List Bool) (e : Refused) → c.read l ≡ Err (e, at) → (pair c (λ _. d)).read l ≡ Err (e, at)
unfolding pair
two_first c d l at e h = rw h refl

pub two_second : (c d : Codec (Option ℕ)) (l mid at : List Bool) (a : Option ℕ) (e : Refused) → c.read l ≡ Ok (a, mid)
    → d.read mid ≡ Err (e, at) → (pair c (λ _. d)).read l ≡ Err (e, at)
unfolding pair
two_second c d l mid at a e h k = rw (h, k) refl

-- what the whole loop read, as two lists
pub zipped_firsts : {A B : Type 0} (xs : List A) (ys : List B) → length xs ≡ length ys → firsts (zipped xs ys) ≡ xs
zipped_firsts [] ys h = refl
zipped_firsts (x ∷ xs) [] h = absurd (omega (arith, h))
zipped_firsts (x ∷ xs) (y ∷ ys) h = ap (λ l. x ∷ l) (zipped_firsts xs ys (omega (arith, h)))

pub zipped_seconds : {A B : Type 0} (xs : List A) (ys : List B) → length xs ≡ length ys → seconds (zipped xs ys) ≡ ys
zipped_seconds [] [] h = refl
zipped_seconds [] (y ∷ ys) h = absurd (omega (arith, h))
zipped_seconds (x ∷ xs) [] h = absurd (omega (arith, h))
zipped_seconds (x ∷ xs) (y ∷ ys) h = ap (λ l. y ∷ l) (zipped_seconds xs ys (omega (arith, h)))

pub coordinates_ok : (bands : ℕ) (l rest : List Bool) (xs ys : List (Option ℕ)) → length xs ≡ length ys
    → (each 18 0 (two bands)).read l ≡ Ok (zipped xs ys, rest) → (coordinate_each bands).read l ≡ Ok ((xs, ys), rest)
unfolding coordinate_each alternating fitted
coordinates_ok bands l rest xs ys h e = rw (e, zipped_firsts xs ys h, zipped_seconds xs ys h) refl

pub coordinates_err : (bands : ℕ) (l at : List Bool) (e : Refused) → (each 18 0 (two bands)).read l ≡ Err (e, at)
    → (coordinate_each bands).read l ≡ Err (e, at)
unfolding coordinate_each alternating fitted
coordinates_err bands l at e h = rw h refl
