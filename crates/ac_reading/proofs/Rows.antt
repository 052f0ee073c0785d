-- Rows of bins, and rows put into arrays.
use Rattle.std.proofs.Common.{◌≡◌, ◌⊎◌, ℕ, ◌<◌, Bool, true, false, List, [], length, slice_index, set, get_or-set_same, get_or-set_other, nat_lt, refl, ap, sym, subst, ◌∙◌, arith, inl, inr}
use Rattle.std.specs.Prelude.{nat_le, if◌then◌else◌, slice_index_or, replicate}
use Rattle.std.proofs.lemmas.Bool.{cases_eq, cases_lt, le-ltb}
use Rattle.std.proofs.lemmas.Bool.Decides.{nat_tests}
use Rattle.std.proofs.lemmas.List.{get_or-replicate, get_or_past, length-replicate}
use Rattle.ac_base.specs.declared.spans.Span.{Span}
use Rattle.ac_base.specs.Spans.{IsIn}
use Rattle.ac_record.specs.Channels.{is_in}
use Rattle.ac_record.specs.Readings.{cell}
use Rattle.ac_reading.specs.Cells.{IsPutIn, IsPut, IsRow}

-- a bin is in a span or not
pub cases_in : (span : Span) (k : ℕ) → IsIn span k ⊎ (IsIn span k → ⊥)
cases_in span k = elim (cases_lt k span.start) [
  | inl lt ↦ inr (λ i. let a = i.0 in absurd (omega arith))
  | inr le ↦ elim (cases_lt k span.end) [
    | inl lt ↦ inl (le, lt)
    | inr ge ↦ inr (λ i. let a = i.1 in absurd (omega arith))
  ]
]

pub in_true : (span : Span) (k : ℕ) → IsIn span k → is_in span k ≡ true
in_true span k i = let a = i.0 in let b = i.1 in grind (arith, nat_tests)

pub in_false : (span : Span) (k : ℕ) → (IsIn span k → ⊥) → is_in span k ≡ false
in_false span k out = elim (cases_lt k span.start) [
  | inl lt ↦ (let e : nat_le span.start k ≡ false = grind (arith, nat_tests) in rw e refl)
  | inr le ↦ elim (cases_lt k span.end) [
    | inl lt ↦ absurd (out (le, lt))
    | inr ge ↦ (let a : nat_le span.start k ≡ true = grind (arith, nat_tests) in let e : nat_lt k span.end ≡ false = le-ltb k span.end ge in rw (a, e) refl)
  ]
]

pub in_from : (span : Span) (k : ℕ) → is_in span k ≡ true → IsIn span k
in_from span k e = elim (cases_in span k) [
  | inl i ↦ i
  | inr out ↦ let f = in_false span k out in absurd cc
]

pub row_from : (span : Span) (g : ℕ → ℕ) (row : List ℕ) → ((k : ℕ) → IsIn span k → slice_index row k ≡ g k) → ((k : ℕ) → (IsIn span k → ⊥) → slice_index row k ≡ 0) → IsRow span g row
row_from span g row inside outside k = elim (cases_in span k) [
  | inl i ↦ rw (in_true span k i) (inside k i)
  | inr out ↦ rw (in_false span k out) (outside k out)
]

pub row_inside : (span : Span) (g : ℕ → ℕ) (row : List ℕ) → IsRow span g row → (k : ℕ) → IsIn span k → slice_index row k ≡ g k
row_inside span g row h k i = h k ∙ ap (λ (t : Bool). if t then g k else 0) (in_true span k i)

pub row_outside : (span : Span) (g : ℕ → ℕ) (row : List ℕ) → IsRow span g row → (k : ℕ) → (IsIn span k → ⊥) → slice_index row k ≡ 0
row_outside span g row h k out = h k ∙ ap (λ (t : Bool). if t then g k else 0) (in_false span k out)

-- the same for other values
pub row_same : (span : Span) (f g : ℕ → ℕ) (row : List ℕ) → ((k : ℕ) → IsIn span k → f k ≡ g k) → IsRow span f row → IsRow span g row
row_same span f g row e h = row_from span g row (λ k i. row_inside span f row h k i ∙ e k i) (λ k out. row_outside span f row h k out)

pub zero_at : (n k : ℕ) → slice_index (replicate {A = ℕ} n 0) k ≡ 0
zero_at n k = elim (cases_lt k n) [
  | inl lt ↦ get_or-replicate n k 0 0 lt
  | inr le ↦ get_or_past (replicate {A = ℕ} n 0) k 0 (omega (arith, length-replicate {A = ℕ} n 0))
]

-- ---- put into a block of a channel

pub put_in : (old : List (List ℕ)) (b : ℕ) (row : List ℕ) → b < length old → IsPutIn old (set old b row) b row
put_in old b row lt = record { here = get_or-set_same old b row [] lt; rest = λ e ne. get_or-set_other old b e row [] ne }

pub put_at : (old : List (List (List ℕ))) (c b : ℕ) (channel : List (List ℕ)) (row : List ℕ) → c < length old → IsPutIn (slice_index_or old c []) channel b row → IsPut old (set old c channel) c b row
put_at old c b channel row lt h =
    let same = get_or-set_same old c channel [] lt in
    record {
      here = λ k. ap (λ (r : List (List ℕ)). slice_index (slice_index_or r b []) k) same ∙ ap (λ (r : List ℕ). slice_index r k) h.here;
      rest = λ d e k other. elim (cases_eq d c) [
        | inl eq ↦ elim other [
          | inl out ↦ absurd (out eq)
          | inr out ↦
              subst (λ (x : ℕ). slice_index (slice_index_or (slice_index_or (set old c channel) x []) e []) k ≡ cell old x e k) (sym eq)
              (ap (λ (r : List (List ℕ)). slice_index (slice_index_or r e []) k) same ∙ ap (λ (r : List ℕ). slice_index r k) (h.rest e out))
        ]
        | inr ne ↦ ap (λ (r : List (List ℕ)). slice_index (slice_index_or r e []) k) (get_or-set_other old c d channel [] ne)
      ];
    }

pub if_zero : (t : Bool) → if◌then◌else◌ {A = ℕ} t 0 0 ≡ 0
if_zero true = refl
if_zero false = refl
