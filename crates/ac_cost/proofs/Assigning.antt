-- What assignments take, and their runs.
use Rattle.std.proofs.Common.{◌≡◌, ℕ, ◌<◌, ◌≤◌, Bool, true, false, List, [], slice_index, slice_index_or, Option, Some, None, refl, sym, ap, ◌∙◌, subst, inl, inr, arith}
use Rattle.std.specs.Prelude.{nat_le, nat_lt, nat_eq, is_some, if◌then◌else◌}
use Rattle.ac_base.proofs.Tests.{all_below-at}
use Rattle.std.proofs.lemmas.Bool.{cases_lt, ne_eqb, lt-ltb, le-ltb, eq-eqb, leb-true}
use Rattle.std.proofs.lemmas.List.Elements.{recursion_from_All}
use Rattle.ac_base.specs.declared.shapes.Shape.{Shape}
use Rattle.ac_base.specs.declared.spans.Lead.TheVariants.{Low}
use Rattle.ac_base.specs.Shape.{full_of, coded_of, span_of}
use Rattle.ac_base.specs.Spans.{greatest_kind}
use Rattle.ac_base.specs.Words.{IsWord, IsStretch, runs_of, word_of}
use Rattle.ac_base.proofs.Stretches.{tile, are_stretches}
use Rattle.ac_expo.specs.Raw.{channels}
use Rattle.ac_cost.specs.Runs.{IsRunOf, IsAssignmentOf, TakesLow, run_with}
use Rattle.ac_cost.proofs.Covering.{one-of}

-- ---- the kinds of channels
pub low-lead : (acmod bw : ℕ) (couple : Option (ℕ × ℕ)) → (span_of acmod bw couple (coded_of acmod false couple)).lead ≡ Low
low-lead acmod bw None =
    let f : nat_lt (coded_of acmod false None) (full_of acmod) ≡ false = le-ltb _ _ (omega arith) in
    let t : nat_eq (coded_of acmod false None) (full_of acmod) ≡ true = eq-eqb _ _ (omega arith) in
    rw (f, t) refl
low-lead acmod bw (Some p) =
    let f : nat_lt (coded_of acmod false (Some p)) (full_of acmod) ≡ false = le-ltb _ _ (omega arith) in
    let t : nat_eq (coded_of acmod false (Some p)) (full_of acmod) ≡ false = ne_eqb _ _ (omega arith) in
    rw (f, t) refl

pub full-kind : (acmod bw : ℕ) (couple : Option (ℕ × ℕ)) (c : ℕ) → c < coded_of acmod false couple → greatest_kind (span_of acmod bw couple c).lead ≡ 3
full-kind acmod bw None c l = let t : nat_lt c (full_of acmod) ≡ true = lt-ltb _ _ (omega arith) in rw t refl
full-kind acmod bw (Some p) c l =
    elim (cases_lt c (full_of acmod)) [
      | inl less ↦ let t : nat_lt c (full_of acmod) ≡ true = lt-ltb _ _ less in rw t refl
      | inr more ↦
          let f : nat_lt c (full_of acmod) ≡ false = le-ltb _ _ more in
          let same : c ≡ full_of acmod = omega arith in
          let t : nat_eq c (full_of acmod) ≡ true = eq-eqb c (full_of acmod) same in
          rw (f, t) refl
    ]

kinds-are : (acmod : ℕ) (lfe : Bool) (bw : ℕ) (couple : Option (ℕ × ℕ)) (c code : ℕ) → c < coded_of acmod lfe couple → code ≤ 3 → (lfe ≡ true → c ≡ coded_of acmod false couple → code ≤ 1) → code ≤ greatest_kind (span_of acmod bw couple c).lead
kinds-are acmod false bw couple c code l small low = omega (arith, full-kind acmod bw couple c l)
kinds-are acmod true bw couple c code l small low =
    elim (cases_lt c (coded_of acmod false couple)) [
      | inl less ↦ omega (arith, full-kind acmod bw couple c less)
      | inr more ↦
          let last : c ≡ coded_of acmod false couple = omega arith in
          let lead = ap (λ k. greatest_kind (span_of acmod bw couple k).lead) last ∙ ap greatest_kind (low-lead acmod bw couple) in
          omega (arith, lead, low refl last)
    ]

-- words whose LFE codes are 0 and 1 are an assignment
pub assign-is : (shape : Shape) (assign : List (List ℕ)) → channels shape ≤ 7 → ((c : ℕ) → c < 7 → IsWord (word_of assign c)) → TakesLow shape assign → IsAssignmentOf shape assign
assign-is shape assign few words low = record {
  words = λ c l. words c (omega arith);
  kinds = λ c block l b. kinds-are shape.acmod shape.lfe shape.bw shape.couple c (slice_index (word_of assign c) block) l ((words c (omega arith)).small block b)
      (λ there last. let e = ap (λ k. slice_index (word_of assign k) block) last in omega (arith, e, low there block b));
}

-- ---- the run that has a block
pub run-of : (shape : Shape) (assign : List (List ℕ)) (c b : ℕ) → IsAssignmentOf shape assign → c < channels shape → b < 6 → IsRunOf shape c (run_with (runs_of (word_of assign c)) b)
run-of shape assign c b is l m =
    let word = word_of assign c in
    let ok = is.words c l in
    let stretch = one-of (IsStretch word) (runs_of word) 0 6 b (tile word ok) (recursion_from_All (IsStretch word) (runs_of word) (are_stretches word ok)) (omega arith) m in
    let from = stretch.order in
    let within : (run_with (runs_of word) b).from < 6 = omega (arith, from, stretch.blocks) in
    record {
      channel = l;
      is_run = record {
        order = stretch.order;
        blocks = stretch.blocks;
        some = omega (arith, stretch.kind, stretch.sends);
        kind = omega (arith, stretch.kind, ok.small _ within);
      };
      taken = omega (arith, stretch.kind, is.kinds c _ l within);
    }

-- ---- how many channels, and the same words
count-le : (there : Bool) → (if there then 1 else 0) ≤ 1
count-le true = omega arith
count-le false = omega arith

pub coded-few : (shape : Shape) → channels shape ≤ 7
coded-few shape =
    let full = leb-true _ _ (all_below-at 8 (λ k. nat_le (full_of k) 5) refl shape.acmod (omega (arith, shape.channels))) in
    omega (arith, full, count-le (is_some shape.couple), count-le shape.lfe)

pub assign-same : (shape : Shape) (assign others : List (List ℕ)) → channels shape ≤ 7 → ((c : ℕ) → c < 7 → slice_index_or others c [] ≡ word_of assign c) → IsAssignmentOf shape assign → IsAssignmentOf shape others
assign-same shape assign others few same is = record {
  words = λ c l. subst IsWord (sym (same c (omega arith))) (is.words c l);
  kinds = λ c block l b. let e = ap (λ w. slice_index w block) (same c (omega arith)) in omega (arith, e, is.kinds c block l b);
}
