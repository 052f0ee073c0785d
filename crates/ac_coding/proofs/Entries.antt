-- Rows and arrays by the spans of coded channels.
use Rattle.std.proofs.Common.{◌≡◌, ◌⊎◌, ℕ, ◌<◌, ◌≤◌, ◌&&◌, Bool, true, false, List, [], length, slice_index, slice_index_or, nat_lt, nat_le, replicate, refl, ap, sym, ◌∙◌, inl, inr, arith}
use Rattle.std.specs.Prelude.{if◌then◌else◌}
use Rattle.std.proofs.lemmas.Bool.{cases_lt, lt-ltb, le-ltb, le-leb}
use Rattle.std.proofs.lemmas.Bool.Decides.{nat_tests}
use Rattle.std.proofs.lemmas.List.{length-replicate, get_or-replicate}
use Rattle.ac_base.specs.declared.shapes.Shape.{Shape}
use Rattle.ac_base.specs.declared.spans.Span.{Span}
use Rattle.ac_base.specs.Spans.{IsIn}
use Rattle.ac_base.proofs.SpanBounds.{span_end}
use Rattle.ac_expo.specs.Raw.{channel_span, channels}
use Rattle.ac_rows.specs.Filled.{listed}
use Rattle.ac_rows.proofs.Listed.{is_listed}
use Rattle.ac_record.specs.Channels.{is_in}
use Rattle.ac_record.specs.Readings.{cell}
use Rattle.ac_cost.proofs.Exponents.{span_of_shape}
use Rattle.ac_cost.proofs.Assigning.{coded-few}
use Rattle.ac_sent.proofs.Listed.{entry_at, listed_same}
use Rattle.ac_sent.proofs.Tests.{and_both, and_not}
use Rattle.ac_coding.specs.Rows.{row_in}
use Rattle.ac_coding.specs.Values.{row_at, in_spans}

-- ---- a bin is in a span, or it isn't
pub bin_in : (span : Span) (k : ℕ) → IsIn span k → is_in span k ≡ true
bin_in span k inside = and_both (nat_le span.start k) (nat_lt k span.end) (le-leb span.start k inside.0) (lt-ltb k span.end inside.1)

first_not : (a b : Bool) → a ≡ false → (a && b) ≡ false
first_not a b e = rw e refl

pub bin_cases : (span : Span) (k : ℕ) → IsIn span k ⊎ ((IsIn span k → ⊥) × (is_in span k ≡ false))
bin_cases span k =
    elim (cases_lt k span.start) [
      | inl before ↦
          let e : nat_le span.start k ≡ false = grind (arith, nat_tests) in
          inr (λ inside. absurd (omega (arith, inside.0, before)), first_not (nat_le span.start k) (nat_lt k span.end) e)
      | inr from ↦
          elim (cases_lt k span.end) [
            | inl below ↦ inl (from, below)
            | inr past ↦ inr (λ inside. absurd (omega (arith, inside.1, past)), and_not (nat_le span.start k) (nat_lt k span.end) (le-ltb k span.end past))
          ]
    ]

chosen : (t : Bool) (x : ℕ) → t ≡ true → (if t then x else 0) ≡ x
chosen t x e = rw e refl

left : (t : Bool) (x : ℕ) → t ≡ false → (if t then x else 0) ≡ 0
left t x e = rw e refl

-- ---- a row
pub row_listed : (span : Span) (f : ℕ → ℕ) (row : List ℕ) → length row ≡ 256 → ((k : ℕ) → IsIn span k → slice_index row k ≡ f k) → ((k : ℕ) → k < 256 → (IsIn span k → ⊥) → slice_index row k ≡ 0) → row ≡ row_in span f
unfolding row_in
row_listed span f row long inside outside =
    is_listed 256 row (λ k. if is_in span k then f k else 0) 0 long (λ k lt. elim (bin_cases span k) [
      | inl is ↦ inside k is ∙ sym (chosen (is_in span k) (f k) (bin_in span k is))
      | inr not ↦ outside k lt not.0 ∙ sym (left (is_in span k) (f k) not.1)
    ])

-- over zeros
pub row_over : (span : Span) (f : ℕ → ℕ) (old row : List ℕ) → old ≡ replicate {A = ℕ} 256 0 → length row ≡ 256 → ((k : ℕ) → IsIn span k → slice_index row k ≡ f k) → ((k : ℕ) → (IsIn span k → ⊥) → slice_index row k ≡ slice_index old k) → row ≡ row_in span f
row_over span f old row zero long inside outside =
    row_listed span f row long inside (λ k lt not. outside k not ∙ (ap (λ (l : List ℕ). slice_index l k) zero ∙ get_or-replicate {A = ℕ} 256 k 0 0 lt))

pub row_here : (shape : Shape) (f : ℕ → ℕ → ℕ → ℕ) (c b : ℕ) → c < channels shape → row_in (channel_span shape c) (f c b) ≡ row_at shape f c b
unfolding row_in
row_here shape f c b lt =
    sym (ap (λ (t : Bool). listed 256 0 (λ k. if t && is_in (channel_span shape c) k then f c b k else 0)) (lt-ltb c (channels shape) lt))

pub row_same : (span : Span) (f g : ℕ → ℕ) → ((k : ℕ) → IsIn span k → f k ≡ g k) → row_in span f ≡ row_in span g
unfolding row_in
row_same span f g same =
    listed_same 256 (λ k. if is_in span k then f k else 0) (λ k. if is_in span k then g k else 0) (λ k lt. elim (bin_cases span k) [
      | inl is ↦ ap (λ x. if is_in span k then x else 0) (same k is)
      | inr not ↦ left (is_in span k) (f k) not.1 ∙ sym (left (is_in span k) (g k) not.1)
    ])

row_clear : (shape : Shape) (f : ℕ → ℕ → ℕ → ℕ) (c b : ℕ) → channels shape ≤ c → replicate {A = ℕ} 256 0 ≡ row_at shape f c b
row_clear shape f c b past =
    is_listed 256 (replicate {A = ℕ} 256 0) (λ k. if nat_lt c (channels shape) && is_in (channel_span shape c) k then f c b k else 0) 0 (length-replicate {A = ℕ} 256 0)
    (λ k lt. get_or-replicate {A = ℕ} 256 k 0 0 lt ∙ sym (left (nat_lt c (channels shape) && is_in (channel_span shape c) k) (f c b k) (first_not (nat_lt c (channels shape)) (is_in (channel_span shape c) k) (le-ltb c (channels shape) past))))

pub rows_clear : (shape : Shape) (f : ℕ → ℕ → ℕ → ℕ) (c : ℕ) → channels shape ≤ c → replicate {A = List ℕ} 6 (replicate {A = ℕ} 256 0) ≡ listed 6 0 (row_at shape f c)
rows_clear shape f c past =
    is_listed 6 (replicate {A = List ℕ} 6 (replicate {A = ℕ} 256 0)) (row_at shape f c) [] (length-replicate {A = List ℕ} 6 (replicate {A = ℕ} 256 0))
    (λ b lt. get_or-replicate {A = List ℕ} 6 b (replicate {A = ℕ} 256 0) [] lt ∙ row_clear shape f c b past)

-- ---- entries
bin_small : (shape : Shape) (c k : ℕ) → IsIn (channel_span shape c) k → k < 256
bin_small shape c k inside = omega (arith, inside.1, span_end (channel_span shape c) (span_of_shape shape c))

pub row_entry : (shape : Shape) (f : ℕ → ℕ → ℕ → ℕ) (c b k : ℕ) → c < channels shape → IsIn (channel_span shape c) k → slice_index (row_at shape f c b) k ≡ f c b k
row_entry shape f c b k lt inside =
    entry_at 256 (λ j. if nat_lt c (channels shape) && is_in (channel_span shape c) j then f c b j else 0) k 0 (bin_small shape c k inside)
    ∙ chosen (nat_lt c (channels shape) && is_in (channel_span shape c) k) (f c b k) (and_both (nat_lt c (channels shape)) (is_in (channel_span shape c) k) (lt-ltb c (channels shape) lt) (bin_in (channel_span shape c) k inside))

pub row_of_spans : (shape : Shape) (f : ℕ → ℕ → ℕ → ℕ) (c b : ℕ) → c < channels shape → b < 6 → slice_index_or (slice_index_or (in_spans shape f) c []) b [] ≡ row_at shape f c b
row_of_spans shape f c b lt in_frame =
    ap (λ (l : List (List ℕ)). slice_index_or l b []) (entry_at 7 (λ d. listed 6 0 (row_at shape f d)) c [] (omega (arith, lt, coded-few shape)))
    ∙ entry_at 6 (row_at shape f c) b [] in_frame

pub cell_of_spans : (shape : Shape) (f : ℕ → ℕ → ℕ → ℕ) (c b k : ℕ) → c < channels shape → b < 6 → IsIn (channel_span shape c) k → cell (in_spans shape f) c b k ≡ f c b k
cell_of_spans shape f c b k lt in_frame inside =
    ap (λ (l : List ℕ). slice_index l k) (row_of_spans shape f c b lt in_frame) ∙ row_entry shape f c b k lt inside

-- ---- the whole array
row_cases : (shape : Shape) (f g : ℕ → ℕ → ℕ → ℕ) (c b : ℕ) → (c < channels shape → (k : ℕ) → IsIn (channel_span shape c) k → f c b k ≡ g c b k) → row_at shape f c b ≡ row_at shape g c b
row_cases shape f g c b same =
    elim (cases_lt c (channels shape)) [
      | inl lt ↦ sym (row_here shape f c b lt) ∙ (row_same (channel_span shape c) (f c b) (g c b) (same lt) ∙ row_here shape g c b lt)
      | inr past ↦ sym (row_clear shape f c b past) ∙ row_clear shape g c b past
    ]

pub spans_same : (shape : Shape) (f g : ℕ → ℕ → ℕ → ℕ) → ((c b k : ℕ) → c < channels shape → b < 6 → IsIn (channel_span shape c) k → f c b k ≡ g c b k) → in_spans shape f ≡ in_spans shape g
spans_same shape f g same =
    listed_same 7 (λ c. listed 6 0 (row_at shape f c)) (λ c. listed 6 0 (row_at shape g c)) (λ c few. listed_same 6 (row_at shape f c) (row_at shape g c) (λ b in_frame. row_cases shape f g c b (λ lt k inside. same c b k lt in_frame inside)))
