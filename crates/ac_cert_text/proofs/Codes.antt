-- The test of a word's codes.
use Rattle.std.proofs.Common.{◌≡◌, ℕ, zero, suc, ◌<◌, ◌≤◌, Bool, true, false, List, [], ◌∷◌, length, refl, arith}
use Rattle.std.specs.Prelude.{nat_le, slice_index}
use Rattle.std.specs.List.{list_all}
use Rattle.std.proofs.lemmas.Bool.{le-leb, leb-true}
use Rattle.ac_base.specs.Words.{IsWord}
use Rattle.ac_cert_text.specs.Text.{is_word}
use Rattle.ac_cert_text.proofs.Numbers.{both}

six-true : (a b c d e f : ℕ) → IsWord (a ∷ b ∷ c ∷ d ∷ e ∷ f ∷ []) → is_word (a ∷ b ∷ c ∷ d ∷ e ∷ f ∷ []) ≡ true
six-true a b c d e f h =
    rw (le-leb 1 a h.sends, le-leb a 3 (h.small 0 (omega arith)), le-leb b 3 (h.small 1 (omega arith)), le-leb c 3 (h.small 2 (omega arith)), le-leb d 3 (h.small 3 (omega arith)), le-leb e 3 (h.small 4 (omega arith)), le-leb f 3 (h.small 5 (omega arith))) refl

small-all : (codes : List ℕ) → list_all (λ code. nat_le code 3) codes ≡ true → (block : ℕ) → block < length codes → slice_index codes block ≤ 3
small-all [] h block lt = absurd (omega arith)
small-all (a ∷ codes) h zero lt = leb-true a 3 (both (nat_le a 3) (list_all (λ code. nat_le code 3) codes) h).0
small-all (a ∷ codes) h (suc block) lt = small-all codes (both (nat_le a 3) (list_all (λ code. nat_le code 3) codes) h).1 block (omega arith)

pub word-is : (codes : List ℕ) → length codes ≡ 6 → is_word codes ≡ true → IsWord codes
word-is codes long h =
    let p = both (nat_le 1 (slice_index codes 0)) (list_all (λ code. nat_le code 3) codes) h in
    record {
      long = long;
      sends = leb-true 1 (slice_index codes 0) p.0;
      small = λ block lt. small-all codes p.1 block (omega (arith, long, lt));
    }

pub word-true : (codes : List ℕ) → IsWord codes → is_word codes ≡ true
word-true codes h = go codes h.long h
  where
    go : (xs : List ℕ) → length xs ≡ 6 → IsWord xs → is_word xs ≡ true
    go [] l h = absurd (omega arith)
    go (a ∷ []) l h = absurd (omega arith)
    go (a ∷ b ∷ []) l h = absurd (omega arith)
    go (a ∷ b ∷ c ∷ []) l h = absurd (omega arith)
    go (a ∷ b ∷ c ∷ d ∷ []) l h = absurd (omega arith)
    go (a ∷ b ∷ c ∷ d ∷ e ∷ []) l h = absurd (omega arith)
    go (a ∷ b ∷ c ∷ d ∷ e ∷ f ∷ []) l h = six-true a b c d e f h
    go (a ∷ b ∷ c ∷ d ∷ e ∷ f ∷ g ∷ xs) l h = absurd (omega arith)

pub word-false : (codes : List ℕ) → length codes ≡ 6 → (IsWord codes → ⊥) → is_word codes ≡ false
word-false codes long h = go (is_word codes) refl
  where
    go : (t : Bool) → is_word codes ≡ t → is_word codes ≡ false
    go true e = absurd (h (word-is codes long e))
    go false e = e
