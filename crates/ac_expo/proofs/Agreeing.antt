-- Raw exponents that agree at the bins of a span have one formula, and exponents that agree there one spelling.
use Rattle.std.proofs.Common.{◌≡◌, ℕ, zero, suc, ◌+◌, ◌-◌, ◌*◌, ◌/◌, ◌<◌, ◌≤◌, Bool, true, false, List, [], ◌∷◌, ◌++◌, slice_index, slice_index_or, inl, inr, arith, refl, ap, ap₂, sym, ◌∙◌, subst}
use Rattle.std.specs.Prelude.{min, if◌then◌else◌}
use Rattle.std.proofs.lemmas.Bool.{cases_eq, cases_lt}
use Rattle.ac_base.specs.declared.spans.Lead.{Lead}
use Rattle.ac_base.specs.declared.spans.Lead.TheVariants.{Free, Coupled, Coupling, Low}
use Rattle.ac_base.specs.declared.spans.Span.{Span}
use Rattle.ac_base.specs.Shape.{IsSpan, IsSpanOf}
use Rattle.ac_base.proofs.SpanBounds.{span_some}
use Rattle.ac_base.specs.Spans.{IsIn, IsKind, is_coupling}
use Rattle.ac_base.specs.Spans.{groups_of}
use Rattle.ac_expo.specs.Steps.{step_of, bin_of}
use Rattle.ac_expo.specs.Greatest.{IsUnder, IsGreatest, IsByFormula}
use Rattle.ac_expo.specs.Spelling.{Spelling}
use Rattle.ac_expo.specs.Groups.{first_of, reference, past, at_step, mapped, group_of, groups_below, spelled_of}
use Rattle.ac_expo.proofs.Places.{at_first, at_bin, at_past, bin_from}
use Rattle.ac_expo.proofs.Formula.{formula, one}

-- the same raw exponents at the bins of the span, in the blocks from `from` up to but not `to`
abbrev pub RawsAgree : Span → List (List ℕ) → List (List ℕ) → ℕ → ℕ → Type 0
RawsAgree span raw other from to =
    (b k : ℕ) → from ≤ b → b < to → IsIn span k → slice_index (slice_index_or raw b []) k ≡ slice_index (slice_index_or other b []) k

-- the same exponents at the bins of the span
abbrev pub ExpsAgree : Span → List ℕ → List ℕ → Type 0
ExpsAgree span exps others = (k : ℕ) → IsIn span k → slice_index exps k ≡ slice_index others k

-- ---- the exponents of a run

under_same : (span : Span) (raw other : List (List ℕ)) (from to : ℕ) (exps : List ℕ) → RawsAgree span raw other from to → IsUnder span raw from to exps → IsUnder span other from to exps
under_same span raw other from to exps same under b k low high inside =
    let e = same b k low high inside in
    let l = under b k low high inside in
    omega arith

greatest_same : (kind : ℕ) (span : Span) (raw other : List (List ℕ)) (from to : ℕ) (exps : List ℕ) → RawsAgree span raw other from to → IsGreatest kind span raw from to exps → IsGreatest kind span other from to exps
greatest_same kind span raw other from to exps same g = record {
  spellable = g.spellable;
  under = under_same span raw other from to exps same g.under;
  most = λ others k can under inside. g.most others k can (under_same span other raw from to others (λ b j low high within. sym (same b j low high within)) under) inside;
}

pub same_exps : (kind : ℕ) (span : Span) (raw other : List (List ℕ)) (from to : ℕ) (exps others : List ℕ) → IsSpan span → IsKind kind span → RawsAgree span raw other from to
    → IsByFormula kind span raw from to exps → IsByFormula kind span other from to others → ExpsAgree span exps others
same_exps kind span raw other from to exps others is_span is_kind same p q =
    one kind span other from to exps others (greatest_same kind span raw other from to exps same (formula kind span raw from to exps is_span is_kind p)) (formula kind span other from to others is_span is_kind q)

-- ---- the spelling

free_start : (lead : Lead) (start end : ℕ) → IsSpanOf lead start end → is_coupling lead ≡ false → start ≡ 0
free_start Free start end s free = s.0
free_start Coupled start end s free = s.0
free_start Coupling start end s free = cc
free_start Low start end s free = s.0

first_either : (coupling : Bool) (a b c d : ℕ) → a ≡ b → (coupling ≡ false → c ≡ d) → (if coupling then a / 2 else c) ≡ (if coupling then b / 2 else d)
first_either true a b c d e f = ap (λ n. n / 2) e
first_either false a b c d e f = f refl

first_same : (span : Span) (exps others : List ℕ) → IsSpan span → ExpsAgree span exps others → first_of span exps ≡ first_of span others
first_same span exps others is_span same =
    let some = span_some span is_span in
    let at_zero : is_coupling span.lead ≡ false → slice_index exps 0 ≡ slice_index others 0 = λ free. (let z = free_start span.lead span.start span.end is_span free in same 0 (omega arith, omega arith)) in
    first_either (is_coupling span.lead) (slice_index exps span.start) (slice_index others span.start) (slice_index exps 0) (slice_index others 0) (same span.start (omega arith, some)) at_zero

past_same : (kind : ℕ) (span : Span) (exps others : List ℕ) (g : ℕ) → slice_index exps (span.end - 1) ≡ slice_index others (span.end - 1) → past kind span exps g ≡ past kind span others g
unfolding past
past_same kind span exps others g e = ap (λ n. min 24 (n + 2 * (g - step_of kind span (span.end - 1)))) e

at_same : (kind : ℕ) (span : Span) (exps others : List ℕ) → IsSpan span → ExpsAgree span exps others → (g : ℕ) → at_step kind span exps g ≡ at_step kind span others g
at_same kind span exps others is_span same g =
    let P : ℕ → Type 0 = λ x. at_step kind span exps x ≡ at_step kind span others x in
    let some = span_some span is_span in
    elim (cases_eq g 0) [
      | inl e ↦ subst P (sym e) (at_first kind span exps ∙ (ap (reference span.lead) (first_same span exps others is_span same) ∙ sym (at_first kind span others)))
      | inr ne ↦
          let later : 0 < g = omega arith in
          elim (cases_lt (bin_of kind span g) span.end) [
            | inl inside ↦ at_bin kind span exps g later inside ∙ (same (bin_of kind span g) (bin_from kind span g, inside) ∙ sym (at_bin kind span others g later inside))
            | inr outside ↦ at_past kind span exps g later outside ∙ (past_same kind span exps others g (same (span.end - 1) (omega arith, omega arith)) ∙ sym (at_past kind span others g later outside))
          ]
    ]

mapped_same : (kind : ℕ) (span : Span) (exps others : List ℕ) → IsSpan span → ExpsAgree span exps others → (i : ℕ) → mapped kind span exps i ≡ mapped kind span others i
mapped_same kind span exps others is_span same i =
    ap₂ (λ (a b : ℕ). a + 2 - b) (at_same kind span exps others is_span same (i + 1)) (at_same kind span exps others is_span same i)

packed_same : (a b c d e f : ℕ) → a ≡ d → b ≡ e → c ≡ f → 25 * a + 5 * b + c ≡ 25 * d + 5 * e + f
packed_same a b c d e f p q r = omega arith

group_same : (kind : ℕ) (span : Span) (exps others : List ℕ) → IsSpan span → ExpsAgree span exps others → (place : ℕ) → group_of kind span exps place ≡ group_of kind span others place
group_same kind span exps others is_span same place =
    let m = mapped_same kind span exps others is_span same in
    let M = mapped kind span exps in
    let N = mapped kind span others in
    packed_same (M (3 * place)) (M (3 * place + 1)) (M (3 * place + 2)) (N (3 * place)) (N (3 * place + 1)) (N (3 * place + 2)) (m (3 * place)) (m (3 * place + 1)) (m (3 * place + 2))

groups_same : (kind : ℕ) (span : Span) (exps others : List ℕ) → IsSpan span → ExpsAgree span exps others → (n : ℕ) → groups_below kind span exps n ≡ groups_below kind span others n
unfolding groups_below
groups_same kind span exps others is_span same zero = refl
groups_same kind span exps others is_span same (suc n) =
    ap₂ (λ (xs : List ℕ) (x : ℕ). xs ++ x ∷ []) (groups_same kind span exps others is_span same n) (group_same kind span exps others is_span same n)

pub same_spelling : (kind : ℕ) (span : Span) (exps others : List ℕ) → IsSpan span → ExpsAgree span exps others → spelled_of kind span exps ≡ spelled_of kind span others
same_spelling kind span exps others is_span same =
    let P : ℕ → List ℕ → Spelling = λ first groups. record { first = first; groups = groups } in
    ap₂ P (first_same span exps others is_span same) (groups_same kind span exps others is_span same (groups_of kind span))
