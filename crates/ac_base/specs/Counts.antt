-- What the mantissas of a block cost (A/52 7.3.5). Those with bit allocation pointer 1, 2 or 4 share groups, which are counted over all
-- channels of a block; each other one has a code of its own.
use Rattle.std.specs.Prelude.{◌≡◌, ℕ, ◌+◌, ◌*◌, ◌/◌, ◌≤◌, ◌==◌, if◌then◌else◌, List, [], ◌∷◌, ◌++◌, slice_index}

-- the bits of the code of a mantissa with this pointer, where it is in no group (A/52 Tables 7.17, 7.18)
abbrev pub code_width : ℕ → ℕ
code_width bap = slice_index (0 ∷ 0 ∷ 0 ∷ 3 ∷ 0 ∷ 4 ∷ 5 ∷ 6 ∷ 7 ∷ 8 ∷ 9 ∷ 10 ∷ 11 ∷ 12 ∷ 14 ∷ 16 ∷ []) bap

-- the numbers of mantissas with pointer 1, 2 and 4, and the bits of the others
pub record Tally : Type 0 where
  pub linear : ℕ
  pub n1 : ℕ
  pub n2 : ℕ
  pub n4 : ℕ

abbrev pub none : Tally
none = record { linear = 0; n1 = 0; n2 = 0; n4 = 0 }

abbrev pub one_if : ℕ → ℕ → ℕ
one_if pointer bap = if bap == pointer then 1 else 0

-- one mantissa more
abbrev pub with_one : Tally → ℕ → Tally
with_one t bap = record {
  linear = t.linear + code_width bap;
  n1 = t.n1 + one_if 1 bap;
  n2 = t.n2 + one_if 2 bap;
  n4 = t.n4 + one_if 4 bap;
}

-- both together
abbrev pub joined : Tally → Tally → Tally
joined s t = record { linear = s.linear + t.linear; n1 = s.n1 + t.n1; n2 = s.n2 + t.n2; n4 = s.n4 + t.n4 }

-- of a list of pointers
abbrev pub tally_of : List ℕ → Tally
tally_of [] = none
tally_of (bap ∷ baps) = with_one (tally_of baps) bap

-- the bits: three of pointer 1 share 5 bits, three of pointer 2 share 7, two of pointer 4 share 7 (A/52 7.3.5); a last group is whole
abbrev pub exact_of : Tally → ℕ
exact_of t = t.linear + 5 * ((t.n1 + 2) / 3) + 7 * ((t.n2 + 2) / 3) + 7 * ((t.n4 + 1) / 2)

-- the same in sixths of a bit, each mantissa with its share of a group: this project's own
abbrev pub sixths_of : Tally → ℕ
sixths_of t = 6 * t.linear + 10 * t.n1 + 14 * t.n2 + 21 * t.n4

-- laws of these definitions: no share is more than its group
abbrev pub SixthsAreWithinExact : Type 0
SixthsAreWithinExact = (t : Tally) → sixths_of t ≤ 6 * exact_of t

-- and two lists in a row have the mantissas of both
abbrev pub TalliesJoin : Type 0
TalliesJoin = (xs ys : List ℕ) → tally_of (xs ++ ys) ≡ joined (tally_of xs) (tally_of ys)
