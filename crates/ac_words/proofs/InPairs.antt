-- Words are those of one list of pairs.
use Rattle.std.proofs.Common.{◌≡◌, ◌∙◌, true, refl, ap, arith, List, [], ◌∷◌, length, map}
use Rattle.std.specs.Str.{bytes_eq}
use Rattle.std.proofs.lemmas.Slice.Eq.{bytes_eq-Decides}
use Rattle.ac_words.specs.Grammar.{Pair, Text, spelled}

pub test_of : (a b : Text) → a ≡ b → bytes_eq a b ≡ true
test_of a b e = (bytes_eq-Decides a b).1 e

pub spelled_one : (ps qs : List Pair) → spelled ps ≡ spelled qs → ps ≡ qs
spelled_one [] [] e = refl
spelled_one [] (q ∷ qs) e = absurd (cc)
spelled_one (p ∷ ps) [] e = absurd (cc)
spelled_one (p ∷ ps) (q ∷ qs) e =
    let name : p.0 ≡ q.0 = cc in
    let value : p.1 ≡ q.1 = cc in
    let rest : spelled ps ≡ spelled qs = cc in
    ap (λ (x : Text). (x, p.1) ∷ ps) name
    ∙ ap (λ (x : Text). (q.0, x) ∷ ps) value
    ∙ ap (λ (x : List Pair). q ∷ x) (spelled_one ps qs rest)

pub no_words : {A : Type 0} (f : A → Text) (xs : List A) → length xs ≡ 0 → map f xs ≡ []
no_words f [] e = refl
no_words f (x ∷ xs) e = absurd (omega arith)
