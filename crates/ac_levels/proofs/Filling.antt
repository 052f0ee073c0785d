-- The rows of all runs, as they are filled.
use Rattle.std.proofs.Common.{◌≡◌, ℕ, suc, zero, ◌+◌, ◌*◌, ◌<◌, ◌≤◌, ◌-◌, min, max, List, [], length, slice_index, slice_index_or, set, length-set, get_or-set_same, get_or-set_other, refl, sym, ap, ap₂, ◌∙◌, inl, inr, arith, subst}
use Rattle.std.specs.Prelude.{replicate}
use Rattle.std.proofs.lemmas.Bool.{cases_eq, cases_lt}
use Rattle.std.proofs.lemmas.List.{get_or-replicate}
use Rattle.ac_base.specs.declared.spans.Span.{Span}
use Rattle.ac_base.specs.Shape.{IsSpan}
use Rattle.ac_base.proofs.SpanBounds.{span_end}
use Rattle.ac_base.specs.Spans.{IsIn}
use Rattle.ac_expo.specs.Greatest.{exponent_of}
use Rattle.ac_levels.specs.Rows.{level_of, ranges_before, row_of, AreBlocks, most, AreMost, KeepsOthers, AreRowsBelow}
use Rattle.ac_levels.proofs.Unions.{two}

-- ---- the rows of the ranges that begin at a block, up to those that end before block b
pub record AreFilled (blocks : List (List ℕ)) (from at b : ℕ) (row : List ℕ) (old rows : List (List ℕ)) : Type 0 where
  pub long : length rows ≡ 63
  pub last : (k : ℕ) → k < 256 → slice_index row k ≡ most blocks from (b - 1 - from) k
  pub filled : (n k : ℕ) → from + n < b → k < 256 → slice_index (slice_index_or rows (at + n) []) k ≡ most blocks from n k
  pub others : KeepsOthers at (at + b - from) old rows

most_none : (blocks : List (List ℕ)) (from n k : ℕ) → n ≡ 0 → most blocks from n k ≡ slice_index (slice_index_or blocks from []) k
unfolding most
most_none blocks from n k e = rw e refl

most_more : (blocks : List (List ℕ)) (from n m b k : ℕ) → m ≡ n + 1 → b ≡ from + n + 1 → most blocks from m k ≡ max (most blocks from n k) (slice_index (slice_index_or blocks b []) k)
unfolding most
most_more blocks from n m b k e at = let e2 : m ≡ suc n = omega arith in let at2 : b ≡ from + suc n = omega arith in rw (e2, at2) refl

-- one row is set
pub filled_start : (blocks : List (List ℕ)) (from at : ℕ) (old : List (List ℕ)) → length old ≡ 63 → at < 63 → AreFilled blocks from at (from + 1) (slice_index_or blocks from []) old (set old at (slice_index_or blocks from []))
filled_start blocks from at old long room =
    let row = slice_index_or blocks from [] in
    record {
      long = length-set old at row ∙ long;
      last = λ k h. sym (most_none blocks from (from + 1 - 1 - from) k (omega arith));
      filled = λ n k below h.
          let e : at + n ≡ at = omega arith in
          ap (λ x. slice_index (slice_index_or (set old at row) x []) k) e ∙ ap (λ r. slice_index r k) (get_or-set_same old at row [] (omega arith)) ∙ sym (most_none blocks from n k (omega arith));
      others = (λ r below. get_or-set_other old at r row [] (λ e. absurd (omega arith)), λ r above. get_or-set_other old at r row [] (λ e. absurd (omega arith)));
    }

pub filled_more : (blocks : List (List ℕ)) (from at b i : ℕ) (row new entry : List ℕ) (old rows : List (List ℕ)) → from < b → b < 6 → at + 6 ≤ 63 + from → i ≡ at + b - from → ((k : ℕ) → k < 256 → slice_index new k ≡ max (slice_index row k) (slice_index (slice_index_or blocks b []) k)) → ((k : ℕ) → k < 256 → slice_index entry k ≡ slice_index new k)
    → AreFilled blocks from at b row old rows → AreFilled blocks from at (b + 1) new old (set rows i entry)
filled_more blocks from at b i row new entry old rows order below room place raised same_row f =
    let last : (k : ℕ) → k < 256 → slice_index new k ≡ most blocks from (b - from) k = λ k h.
    raised k h ∙ ap (λ x. max x (slice_index (slice_index_or blocks b []) k)) (f.last k h) ∙ sym (most_more blocks from (b - 1 - from) (b - from) b k (omega arith) (omega arith)) in
    let here : i < length rows = omega (arith, f.long) in
    record {
      long = length-set rows i entry ∙ f.long;
      last = λ k h. last k h ∙ ap (λ n. most blocks from n k) (omega arith);
      filled = λ n k inside h.
          elim (cases_eq (at + n) i) [
            | inl e ↦
                let same : b - from ≡ n = omega arith in
                ap (λ x. slice_index (slice_index_or (set rows i entry) x []) k) e ∙ ap (λ r. slice_index r k) (get_or-set_same rows i entry [] here) ∙ same_row k h ∙ last k h ∙ ap (λ m. most blocks from m k) same
            | inr ne ↦ ap (λ r. slice_index r k) (get_or-set_other rows i (at + n) entry [] ne) ∙ f.filled n k (omega arith) h
          ];
      others = (
        λ r before. get_or-set_other rows i r entry [] (λ e. absurd (omega arith)) ∙ f.others.0 r before,
        λ r behind. get_or-set_other rows i r entry [] (λ e. absurd (omega arith)) ∙ f.others.1 r (omega arith),
      );
    }

-- ---- the rows of a kind, up to those that begin before block b
pub record AreOfKind (blocks : List (List ℕ)) (start b at : ℕ) (old rows : List (List ℕ)) : Type 0 where
  pub long : length rows ≡ 63
  pub place : at ≡ start + ranges_before b
  pub filled : (from : ℕ) → from < b → AreMost blocks from (start + ranges_before from) rows
  pub others : KeepsOthers start at old rows

before_more : (n : ℕ) → ranges_before (n + 1) ≡ ranges_before n + (6 - n)
unfolding ranges_before
before_more n = let e : n + 1 ≡ suc n = omega arith in rw e refl

before_less : (n m : ℕ) → ranges_before n + (6 - n) ≤ ranges_before (n + 1 + m)
before_less n zero = let e : n + 1 + 0 ≡ n + 1 = omega arith in let m = before_more n in rw e (omega arith)
before_less n (suc m) = let e : n + 1 + suc m ≡ n + 1 + m + 1 = omega arith in let o = before_less n m in let s = before_more (n + 1 + m) in rw e (omega arith)

-- the ranges that begin at a block stand before those of a later block
pub before : (n b : ℕ) → n < b → ranges_before n + (6 - n) ≤ ranges_before b
before n b order = let e : n + 1 + (b - n - 1) ≡ b = omega arith in subst (λ x. ranges_before n + (6 - n) ≤ ranges_before x) e (before_less n (b - n - 1))

pub before_six : ranges_before 6 ≡ 21
unfolding ranges_before
before_six = refl

pub kind_start : (blocks : List (List ℕ)) (start : ℕ) (old : List (List ℕ)) → length old ≡ 63 → AreOfKind blocks start 0 start old old
unfolding ranges_before
kind_start blocks start old long = record { long = long; place = omega arith; filled = λ from below. absurd (omega arith); others = (λ r h. refl, λ r h. refl) }

pub kind_more : (blocks : List (List ℕ)) (start b at : ℕ) (old rows new : List (List ℕ)) → b < 6 → length new ≡ 63 → AreMost blocks b at new → KeepsOthers at (at + 6 - b) rows new → AreOfKind blocks start b at old rows → AreOfKind blocks start (b + 1) (at + (6 - b)) old new
kind_more blocks start b at old rows new below long made kept k =
    let more = before_more b in
    let place = k.place in
    record {
      long = long;
      place = omega arith;
      filled = λ from earlier n j inside within.
          elim (cases_eq from b) [
            | inl e ↦
                let here : at + n ≡ start + ranges_before from + n = omega (arith, ap ranges_before e) in
                let P : ℕ → ℕ → Type 0 = λ x f. slice_index (slice_index_or new x []) j ≡ most blocks f n j in
                subst (λ x. P x from) here (subst (P (at + n)) (sym e) (made n j (omega arith) within))
            | inr ne ↦
                let room = before from b (omega arith) in
                ap (λ r. slice_index r j) (kept.0 (start + ranges_before from + n) (omega arith)) ∙ k.filled from (omega arith) n j inside within
          ];
      others = (λ r h. kept.0 r (omega arith) ∙ k.others.0 r h, λ r h. kept.1 r (omega arith) ∙ k.others.1 r (omega arith));
    }

-- ---- levels
pub small_list : (span : Span) (exps : List ℕ) → ((k : ℕ) → IsIn span k → slice_index exps k ≤ 24) → ((k : ℕ) → (IsIn span k → ⊥) → slice_index exps k ≡ slice_index (replicate {A = ℕ} 256 24) k) → (k : ℕ) → k < 256 → slice_index exps k ≤ 24
small_list span exps small others k within =
    let none = get_or-replicate {A = ℕ} 256 k 24 0 within in
    elim (cases_lt k span.start) [
      | inl l ↦ let e = others k (λ inside. absurd (omega (arith, inside.0))) in omega arith
      | inr from ↦
          elim (cases_lt k span.end) [
            | inl below ↦ small k (omega arith, below)
            | inr above ↦ let e = others k (λ inside. absurd (omega (arith, inside.1))) in omega arith
          ]
    ]

pub level_of_two : (a b c : ℕ) → a ≡ min b c → level_of a ≡ max (level_of b) (level_of c)
level_of_two a b c e = omega arith

-- the greatest level of the blocks is that of the run
pub most_levels : (kind : ℕ) (span : Span) (raw blocks : List (List ℕ)) (from n k : ℕ) → AreBlocks kind span raw blocks → from + n < 6 → IsIn span k → most blocks from n k ≡ level_of (exponent_of kind span raw from (from + n + 1) k)
most_levels kind span raw blocks from zero k are below inside =
    let e : from + 1 ≡ from + 0 + 1 = omega arith in
    most_none blocks from 0 k refl ∙ are from (omega arith) k inside ∙ ap (λ t. level_of (exponent_of kind span raw from t k)) e
most_levels kind span raw blocks from (suc n) k are below inside =
    let old = most_levels kind span raw blocks from n k are (omega arith) inside in
    let now = are (from + suc n) (omega arith) k inside in
    let E = λ (a b : ℕ). exponent_of kind span raw a b k in
    let e : from + n + 1 ≡ from + suc n = omega arith in
    let cut : E from (from + suc n + 1) ≡ min (E from (from + n + 1)) (E (from + suc n) (from + suc n + 1)) =
    two kind span raw from (from + suc n) (from + suc n + 1) k (omega arith) (omega arith) ∙ ap (λ x. min (E from x) (E (from + suc n) (from + suc n + 1))) (sym e) in
    most_more blocks from n (suc n) (from + suc n) k (omega arith) (omega arith) ∙ ap₂ max old now ∙ sym (level_of_two (E from (from + suc n + 1)) (E from (from + n + 1)) (E (from + suc n) (from + suc n + 1)) cut)

-- ---- the rows of one more kind
pub none_below : (span : Span) (raw rows : List (List ℕ)) → length rows ≡ 63 → AreRowsBelow span raw 1 rows
none_below span raw rows long = record { long = long; filled = λ kind from to low high order ends. absurd (omega arith) }

pub kinds_more : (span : Span) (raw blocks : List (List ℕ)) (kind start : ℕ) (old new : List (List ℕ)) → IsSpan span → 1 ≤ kind → start ≡ 21 * (kind - 1) → length new ≡ 63 → AreBlocks kind span raw blocks → ((from : ℕ) → from < 6 → AreMost blocks from (start + ranges_before from) new) → KeepsOthers start (start + 21) old new
    → AreRowsBelow span raw kind old → AreRowsBelow span raw (kind + 1) new
kinds_more span raw blocks kind start old new is_span some at long are made kept k = record {
  long = long;
  filled = λ c from to low high order ends j inside.
      let room = before from 6 (omega arith) in
      let six = before_six in
      elim (cases_eq c kind) [
        | inl e ↦
            let here : start + ranges_before from + (to - from - 1) ≡ row_of c from to = omega arith in
            let last : from + (to - from - 1) + 1 ≡ to = omega arith in
            let now : slice_index (slice_index_or new (start + ranges_before from + (to - from - 1)) []) j ≡ level_of (exponent_of kind span raw from (from + (to - from - 1) + 1) j) =
            made from (omega arith) (to - from - 1) j (omega arith) (omega (arith, inside.1, span_end span is_span)) ∙ most_levels kind span raw blocks from (to - from - 1) j are (omega arith) inside in
            sym (ap (λ x. slice_index (slice_index_or new x []) j) here) ∙ now ∙ ap₂ (λ (d t : ℕ). level_of (exponent_of d span raw from t j)) (sym e) last
        | inr ne ↦ ap (λ r. slice_index r j) (kept.0 (row_of c from to) (omega arith)) ∙ k.filled c from to low (omega arith) order ends j inside
      ];
}
