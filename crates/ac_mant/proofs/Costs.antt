-- What the bits of mantissas come to.
use Rattle.std.proofs.Common.{◌≡◌, ℕ, zero, suc, ◌+◌, ◌-◌, ◌*◌, ◌/◌, ◌<◌, ◌≤◌, List, [], ◌∷◌, ◌++◌, length, drop, get_or, arith, ap, sym, ◌∙◌}
use Rattle.std.proofs.lemmas.Bool.Decides.{nat_tests}
use Rattle.std.proofs.lemmas.List.{length-append}
use Rattle.ac_base.specs.Counts.{Tally, tally_of, exact_of, code_width, one_if}
use Rattle.ac_bits.specs.Bits.{bits}
use Rattle.ac_bits.proofs.Laws.{length-bits}
use Rattle.ac_mant.specs.Groups.{Fill, IsCoded, AreCoded, coded, pointers, after, closed, number, number_width, spelled}
use Rattle.ac_mant.specs.declared.ahead.Ahead.{Ahead}
use Rattle.ac_mant.specs.declared.coded.Coded.{Coded}

-- a group has no more codes still to come than it has
pub record IsAhead (a : Ahead) : Type 0 where
  pub one : a.one ≤ 2
  pub two : a.two ≤ 2
  pub four : a.four ≤ 1

-- the bits of mantissas of which some were sent ahead
abbrev pub owed : Ahead → Tally → ℕ
owed a t = t.linear + 5 * ((t.n1 - a.one + 2) / 3) + 7 * ((t.n2 - a.two + 2) / 3) + 7 * ((t.n4 - a.four + 1) / 2)

pub after_ahead : (a : Ahead) (bap : ℕ) → IsAhead a → IsAhead (after a bap)
after_ahead a bap is = record { one = grind (arith, nat_tests); two = grind (arith, nat_tests); four = grind (arith, nat_tests) }

one_more : (a : Ahead) (bap : ℕ) (t : Tally) → IsAhead a → number_width a bap + owed (after a bap) t ≡ owed a (record { linear = t.linear + code_width bap; n1 = t.n1 + one_if 1 bap; n2 = t.n2 + one_if 2 bap; n4 = t.n4 + one_if 4 bap })
one_more a bap t is = grind (arith, nat_tests)

pub spelled_cost : (f : Fill) (a : Ahead) (xs : List Coded) → IsAhead a → length (spelled f a xs) ≡ owed a (tally_of (pointers xs))
spelled_cost f a [] is = omega arith
spelled_cost f a (x ∷ xs) is =
    length-append (bits (number f a x xs) (number_width a x.bap)) (spelled f (after a x.bap) xs)
    ∙ ap (λ n. n + length (spelled f (after a x.bap) xs)) (length-bits (number f a x xs) (number_width a x.bap))
    ∙ ap (λ n. number_width a x.bap + n) (spelled_cost f (after a x.bap) xs (after_ahead a x.bap is))
    ∙ one_more a x.bap (tally_of (pointers xs)) is

pub coded_at : (xs : List Coded) (i : ℕ) → i < length xs → AreCoded xs → IsCoded (get_or xs i (coded 0 0))
coded_at [] i below are = absurd (omega arith)
coded_at (x ∷ xs) zero below are = are.0
coded_at (x ∷ xs) (suc i) below are = coded_at xs i (omega arith) are.1

pub coded_behind : (xs : List Coded) (i : ℕ) → AreCoded xs → AreCoded (drop i xs)
coded_behind [] zero are = are
coded_behind [] (suc i) are = are
coded_behind (x ∷ xs) zero are = are
coded_behind (x ∷ xs) (suc i) are = coded_behind xs i are.1

pub closed_ahead : IsAhead closed
closed_ahead = record { one = omega arith; two = omega arith; four = omega arith }

pub whole_cost : (f : Fill) (xs : List Coded) → length (spelled f closed xs) ≡ exact_of (tally_of (pointers xs))
whole_cost f xs = spelled_cost f closed xs closed_ahead ∙ omega arith

-- what two lists come to together is their lengths
pub lengths_meet : {A : Type 0} (a b c d : List A) (m n : ℕ) → a ++ b ≡ c ++ d → length c ≡ m → length d ≡ n → length a + length b ≡ m + n
lengths_meet a b c d m n is left right =
    sym (length-append a b) ∙ ap (λ l. length l) is ∙ length-append c d ∙ ap (λ k. k + length d) left ∙ ap (λ k. m + k) right
