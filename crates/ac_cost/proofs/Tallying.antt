-- Tallies of bins: what they depend on, how great they are, and that sixths rise with the pointers.
use Rattle.std.proofs.Common.{◌≡◌, ℕ, zero, suc, ◌+◌, ◌*◌, ◌<◌, ◌≤◌, List, [], ◌∷◌, slice_index, refl, sym, ap, ap₂, ◌∙◌, inl, inr, subst, arith, eqb}
use Rattle.std.specs.Prelude.{nat_le, nat_eq}
use Rattle.std.proofs.lemmas.Bool.{leb-true, eqb-true, cases_lt, cond_both}
use Rattle.std.proofs.lemmas.List.{get_or_past}
use Rattle.ac_base.specs.Counts.{Tally, none, with_one, one_if, code_width, sixths_of}
use Rattle.ac_base.specs.Fit.{tally_bins}
use Rattle.ac_base.proofs.Tests.{all_below-at}
use Rattle.ac_base.proofs.AllocationTables.{all_rises}

pub bins_none : (bap : ℕ → ℕ) (from : ℕ) → tally_bins bap from 0 ≡ none
unfolding tally_bins
bins_none bap from = refl

pub bins_more : (bap : ℕ → ℕ) (from n : ℕ) → tally_bins bap from (suc n) ≡ with_one (tally_bins bap from n) (bap (from + n))
unfolding tally_bins
bins_more bap from n = refl

pub bins_same : (f g : ℕ → ℕ) (from n : ℕ) → ((k : ℕ) → from ≤ k → k < from + n → f k ≡ g k) → tally_bins f from n ≡ tally_bins g from n
bins_same f g from zero same = bins_none f from ∙ sym (bins_none g from)
bins_same f g from (suc n) same =
    let rest = bins_same f g from n (λ k l m. same k l (omega arith)) in
    let here = same (from + n) (omega arith) (omega arith) in
    bins_more f from n ∙ ap₂ with_one rest here ∙ sym (bins_more g from n)

-- ---- bounds
widest : (bap : ℕ) → code_width bap ≤ 16
widest bap =
    elim (cases_lt bap 16) [
      | inl small ↦ leb-true _ _ (all_below-at 16 (λ k. nat_le (code_width k) 16) refl bap small)
      | inr great ↦ omega (arith, get_or_past {X = ℕ} (0 ∷ 0 ∷ 0 ∷ 3 ∷ 0 ∷ 4 ∷ 5 ∷ 6 ∷ 7 ∷ 8 ∷ 9 ∷ 10 ∷ 11 ∷ 12 ∷ 14 ∷ 16 ∷ []) bap 0 great)
    ]

one_small : (pointer bap : ℕ) → one_if pointer bap ≤ 1
one_small pointer bap = let P : ℕ → Type 0 = λ x. x ≤ 1 in cond_both (eqb bap pointer) 1 0 P (λ e. omega arith) (λ e. omega arith)

-- as great as n mantissas can make it
pub record IsWithin (n : ℕ) (t : Tally) : Type 0 where
  pub linear : t.linear ≤ 16 * n
  pub n1 : t.n1 ≤ n
  pub n2 : t.n2 ≤ n
  pub n4 : t.n4 ≤ n

pub one_within : (n : ℕ) (t : Tally) (bap : ℕ) → IsWithin n t → IsWithin (n + 1) (with_one t bap)
one_within n t bap is = record {
  linear = omega (arith, is.linear, widest bap);
  n1 = omega (arith, is.n1, one_small 1 bap);
  n2 = omega (arith, is.n2, one_small 2 bap);
  n4 = omega (arith, is.n4, one_small 4 bap);
}

pub bins_within : (bap : ℕ → ℕ) (from n : ℕ) → IsWithin n (tally_bins bap from n)
bins_within bap from zero =
    subst (IsWithin 0) (sym (bins_none bap from)) (record { linear = omega arith; n1 = omega arith; n2 = omega arith; n4 = omega arith })
bins_within bap from (suc n) =
    let e : n + 1 ≡ suc n = omega arith in
    let P : ℕ → Type 0 = λ m. IsWithin m (tally_bins bap from (suc n)) in
    subst P e (subst (IsWithin (n + 1)) (sym (bins_more bap from n)) (one_within n (tally_bins bap from n) (bap (from + n)) (bins_within bap from n)))

-- ---- sixths
abbrev weight : ℕ → ℕ
weight bap = 6 * code_width bap + 10 * one_if 1 bap + 14 * one_if 2 bap + 21 * one_if 4 bap

-- of one mantissa by its pointer
abbrev weights : List ℕ
weights = 0 ∷ 10 ∷ 14 ∷ 18 ∷ 21 ∷ 24 ∷ 30 ∷ 36 ∷ 42 ∷ 48 ∷ 54 ∷ 60 ∷ 66 ∷ 72 ∷ 84 ∷ 96 ∷ []

weight_is : (bap : ℕ) → bap ≤ 15 → weight bap ≡ slice_index weights bap
weight_is bap l = eqb-true _ _ (all_below-at 16 (λ k. nat_eq (weight k) (slice_index weights k)) refl bap (omega arith))

weight_rises : (a b : ℕ) → a ≤ b → b ≤ 15 → weight a ≤ weight b
weight_rises a b l m =
    let r = all_rises weights a b refl l (omega arith) in
    let x = weight_is a (omega arith) in
    let y = weight_is b m in
    subst (λ u. u ≤ weight b) (sym x) (subst (λ v. slice_index weights a ≤ v) (sym y) r)

with_one-sixths : (t : Tally) (bap : ℕ) → sixths_of (with_one t bap) ≡ sixths_of t + weight bap
with_one-sixths t bap = omega arith

pub bins_rise : (f g : ℕ → ℕ) (from n : ℕ) → ((k : ℕ) → from ≤ k → k < from + n → (f k ≤ g k) × (g k ≤ 15)) → sixths_of (tally_bins f from n) ≤ sixths_of (tally_bins g from n)
bins_rise f g from zero rise = omega (arith, ap sixths_of (bins_none f from), ap sixths_of (bins_none g from))
bins_rise f g from (suc n) rise =
    let rest = bins_rise f g from n (λ k l m. rise k l (omega arith)) in
    let here = rise (from + n) (omega arith) (omega arith) in
    let w = weight_rises (f (from + n)) (g (from + n)) here.0 here.1 in
    let x = ap sixths_of (bins_more f from n) ∙ with_one-sixths (tally_bins f from n) (f (from + n)) in
    let y = ap sixths_of (bins_more g from n) ∙ with_one-sixths (tally_bins g from n) (g (from + n)) in
    subst (λ u. u ≤ sixths_of (tally_bins g from (suc n))) (sym x) (subst (λ v. sixths_of (tally_bins f from n) + weight (f (from + n)) ≤ v) (sym y) (omega (arith, rest, w)))
