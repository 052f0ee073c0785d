-- A size has one code.
use Rattle.std.proofs.Common.{◌≡◌, ◌⊎◌, ℕ, ◌%◌, ◌≤◌, ◌&&◌, ◌||◌, Bool, true, false, refl, ap, sym, ◌∙◌, inl, inr, arith}
use Rattle.std.specs.Prelude.{not, ◌==◌}
use Rattle.std.proofs.lemmas.Bool.{eqb-true, eq-eqb}
use Rattle.ac_base.specs.Sizes.{code_words}
use Rattle.ac_base.proofs.Tests.{all_below, all_below-at}
use Rattle.ac_sent.specs.Asked.{IsSizeCode}

-- a code that this encoder writes
is_even : ℕ → ℕ → Bool
is_even fscod code = fscod == 1 || code % 2 == 0

-- two such codes of one size are one
same_or_apart : ℕ → ℕ → ℕ → Bool
same_or_apart fscod i j = not (is_even fscod i && is_even fscod j && code_words fscod i == code_words fscod j) || i == j

all_apart : (all_below 3 (λ s. all_below 38 (λ i. all_below 38 (λ j. same_or_apart s i j)))) ≡ true
unfolding same_or_apart is_even
all_apart = refl

or_second : (a b : Bool) → b ≡ true → (a || b) ≡ true
or_second true b e = refl
or_second false b e = e

apart_by : (a b c d : Bool) → a ≡ true → b ≡ true → c ≡ true → (not (a && b && c) || d) ≡ true → d ≡ true
apart_by true true true d e f g h = h
apart_by false b c d e f g h = absurd cc
apart_by true false c d e f g h = absurd cc
apart_by true true false d e f g h = absurd cc

apart_one : (fscod i j : ℕ) → is_even fscod i ≡ true → is_even fscod j ≡ true → (code_words fscod i == code_words fscod j) ≡ true → same_or_apart fscod i j ≡ true → i ≡ j
unfolding same_or_apart
apart_one fscod i j a b c v = eqb-true i j (apart_by (is_even fscod i) (is_even fscod j) (code_words fscod i == code_words fscod j) (i == j) a b c v)

even_is : (fscod code : ℕ) → (fscod ≡ 1) ⊎ (code % 2 ≡ 0) → is_even fscod code ≡ true
unfolding is_even
even_is fscod code (inl e) = ap (λ (t : Bool). t || code % 2 == 0) (eq-eqb fscod 1 e)
even_is fscod code (inr e) = or_second (fscod == 1) (code % 2 == 0) (eq-eqb (code % 2) 0 e)

pub one_code : (fscod words i j : ℕ) → fscod ≤ 2 → IsSizeCode fscod words i → IsSizeCode fscod words j → i ≡ j
one_code fscod words i j rate a b =
    let t = all_below-at 3 (λ s. all_below 38 (λ i. all_below 38 (λ j. same_or_apart s i j))) all_apart fscod (omega arith) in
    let u = all_below-at 38 (λ i. all_below 38 (λ j. same_or_apart fscod i j)) t i a.known in
    let v = all_below-at 38 (λ j. same_or_apart fscod i j) u j b.known in
    apart_one fscod i j (even_is fscod i a.even) (even_is fscod j b.even) (eq-eqb (code_words fscod i) (code_words fscod j) (a.size ∙ sym b.size)) v
