-- The exponents of a run by those of its parts: each layer of the formula takes a least of two to the least of both.
use Rattle.std.proofs.Common.{◌≡◌, ℕ, suc, zero, ◌+◌, ◌*◌, ◌≤◌, ◌-◌, min, Bool, true, false, List, refl, sym, ap, ap₂, ◌∙◌, inl, inr, arith}
use Rattle.std.proofs.lemmas.Bool.{cases_eq}
use Rattle.ac_base.specs.declared.spans.Span.{Span}
use Rattle.std.proofs.Common.{map}
use Rattle.std.specs.List.{range_with_len}
use Rattle.std.proofs.lemmas.List.FromFn.{get_or-map-range_with_len}
use Rattle.ac_base.specs.Shape.{IsSpan}
use Rattle.ac_base.specs.Spans.{IsKind, is_coupling}
use Rattle.ac_expo.specs.Steps.{step_of, last_step}
use Rattle.ac_expo.specs.Least.{distance, least, spread}
use Rattle.ac_expo.specs.Greatest.{bin_least, step_least, raw_least, capped, step_exponent, exponent_of, IsGreatest, IsByFormula}
use Rattle.ac_expo.proofs.Minima.{bin_none, bin_more, bin_small, step_none, step_same, step_other}
use Rattle.ac_expo.proofs.Formula.{formula, one}
use Rattle.ac_levels.specs.Union.{UnionIsLeast, RunIsLeastOfBlocks, UnionIsGreatest}

bins_of_two : (raw : List (List ℕ)) (from n m k : ℕ) → bin_least raw from (n + m) k ≡ min (bin_least raw from n k) (bin_least raw (from + n) m k)
bins_of_two raw from n zero k =
    let e : n + 0 ≡ n = omega arith in
    let none = bin_none raw (from + n) 0 k refl in
    let small = bin_small raw from n k in
    rw e (omega arith)
bins_of_two raw from n (suc m) k =
    let old = bins_of_two raw from n m k in
    let sum = bin_more raw from (n + m) (n + suc m) (from + n + m) k (omega arith) (omega arith) in
    let back = bin_more raw (from + n) m (suc m) (from + n + m) k (omega arith) refl in
    omega arith

steps_of_two : (kind : ℕ) (span : Span) (f a b : ℕ → ℕ) (n g : ℕ) → ((k : ℕ) → f k ≡ min (a k) (b k)) → step_least kind span f n g ≡ min (step_least kind span a n g) (step_least kind span b n g)
steps_of_two kind span f a b zero g two = omega (arith, step_none kind span f 0 g refl, step_none kind span a 0 g refl, step_none kind span b 0 g refl)
steps_of_two kind span f a b (suc n) g two =
    let old = steps_of_two kind span f a b n g two in
    let now = two (span.start + n) in
    elim (cases_eq (step_of kind span (span.start + n)) g) [
      | inl e ↦ omega (arith, step_same kind span f n g e, step_same kind span a n g e, step_same kind span b n g e)
      | inr ne ↦ omega (arith, step_other kind span f n g ne, step_other kind span a n g ne, step_other kind span b n g ne)
    ]

least_of_two : (n : ℕ) (f a b : ℕ → ℕ) → ((h : ℕ) → f h ≡ min (a h) (b h)) → least n f ≡ min (least n a) (least n b)
unfolding least
least_of_two zero f a b two = two 0
least_of_two (suc n) f a b two = omega (arith, least_of_two n f a b two, two (suc n))

spread_of_two : (last : ℕ) (f a b : ℕ → ℕ) (g : ℕ) → ((h : ℕ) → f h ≡ min (a h) (b h)) → spread last f g ≡ min (spread last a g) (spread last b g)
spread_of_two last f a b g two =
    least_of_two last (λ h. f h + 2 * distance g h) (λ h. a h + 2 * distance g h) (λ h. b h + 2 * distance g h) (λ h. let e = two h in omega arith)

capped_of_two : (c : Bool) (g x a b : ℕ) → x ≡ min a b → capped c g x ≡ min (capped c g a) (capped c g b)
capped_of_two true g x a b e = e
capped_of_two false g x a b e = omega arith

raws_of_two : (kind : ℕ) (span : Span) (raw : List (List ℕ)) (from mid to g : ℕ) → from ≤ mid → mid ≤ to → raw_least kind span raw from to g ≡ min (raw_least kind span raw from mid g) (raw_least kind span raw mid to g)
raws_of_two kind span raw from mid to g low high =
    let all : to - from ≡ (mid - from) + (to - mid) = omega arith in
    let at : from + (mid - from) ≡ mid = omega arith in
    steps_of_two kind span (bin_least raw from (to - from)) (bin_least raw from (mid - from)) (bin_least raw mid (to - mid)) (span.end - span.start) g
    (λ k. ap (λ n. bin_least raw from n k) all ∙ bins_of_two raw from (mid - from) (to - mid) k ∙ ap (λ b. min (bin_least raw from (mid - from) k) (bin_least raw b (to - mid) k)) at)

pub step_of_two : (kind : ℕ) (span : Span) (raw : List (List ℕ)) (from mid to g : ℕ) → from ≤ mid → mid ≤ to → step_exponent kind span raw from to g ≡ min (step_exponent kind span raw from mid g) (step_exponent kind span raw mid to g)
unfolding step_exponent
step_of_two kind span raw from mid to g low high =
    let last = last_step kind span in
    let R = raw_least kind span raw in
    capped_of_two (is_coupling span.lead) g (spread last (R from to) g) (spread last (R from mid) g) (spread last (R mid to) g)
    (spread_of_two last (R from to) (R from mid) (R mid to) g (λ h. raws_of_two kind span raw from mid to h low high))

pub two : UnionIsLeast
two kind span raw from mid to k low high = step_of_two kind span raw from mid to (step_of kind span k) low high

least_more : (n : ℕ) (f : ℕ → ℕ) → least (suc n) f ≡ min (least n f) (f (suc n))
unfolding least
least_more n f = refl

blocks_to : (kind : ℕ) (span : Span) (raw : List (List ℕ)) (from n k : ℕ) → exponent_of kind span raw from (from + n + 1) k ≡ least n (λ b. exponent_of kind span raw (from + b) (from + b + 1) k)
unfolding least
blocks_to kind span raw from zero k = let e : from + 0 ≡ from = omega arith in rw e refl
blocks_to kind span raw from (suc n) k =
    let E = λ (a b : ℕ). exponent_of kind span raw a b k in
    let e : from + n + 1 ≡ from + suc n = omega arith in
    let cut = two kind span raw from (from + suc n) (from + suc n + 1) k (omega arith) (omega arith) in
    let old : E from (from + suc n) ≡ least n (λ b. E (from + b) (from + b + 1)) = ap (E from) (sym e) ∙ blocks_to kind span raw from n k in
    cut ∙ ap (λ x. min x (E (from + suc n) (from + suc n + 1))) old

pub blocks : RunIsLeastOfBlocks
blocks kind span raw from to k order =
    let e : to ≡ from + (to - from - 1) + 1 = omega arith in
    ap (λ x. exponent_of kind span raw from x k) e ∙ blocks_to kind span raw from (to - from - 1) k

-- a greatest list has the exponents of the formula
by_formula : (kind : ℕ) (span : Span) (raw : List (List ℕ)) (from to : ℕ) (exps : List ℕ) → IsSpan span → IsKind kind span → IsGreatest kind span raw from to exps → IsByFormula kind span raw from to exps
by_formula kind span raw from to exps is_span is_kind g k inside =
    let other = map (exponent_of kind span raw from to) (range_with_len 0 span.end) in
    let each : IsByFormula kind span raw from to other = λ j within. get_or-map-range_with_len (exponent_of kind span raw from to) 0 span.end j j 0 within.1 (omega arith) in
    one kind span raw from to exps other g (formula kind span raw from to other is_span is_kind each) k inside ∙ each k inside

pub greatest : UnionIsGreatest
greatest kind span raw from mid to front back both is_span is_kind low high f b each =
    formula kind span raw from to both is_span is_kind (λ k inside.
    let p = by_formula kind span raw from mid front is_span is_kind f k inside in
    let q = by_formula kind span raw mid to back is_span is_kind b k inside in
    each k inside ∙ ap₂ min p q ∙ sym (two kind span raw from mid to k low high))
