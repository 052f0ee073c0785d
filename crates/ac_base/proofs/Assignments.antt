-- Uniform assignments.
use Rattle.std.proofs.Common.{◌≡◌, ◌⊎◌, ℕ, zero, suc, ◌<◌, ◌≤◌, Bool, true, false, List, [], ◌∷◌, length, slice_index, Option, Some, None, eqb, refl, sym, ap, ◌∙◌, subst, inl, inr, arith}
use Rattle.std.specs.Prelude.{nat_lt, nat_eq}
use Rattle.std.proofs.lemmas.Bool.{cases_lt, ne_eqb, lt-ltb, le-ltb, eq-eqb}
use Rattle.ac_base.specs.declared.spans.Lead.{Lead}
use Rattle.ac_base.specs.declared.spans.Lead.TheVariants.{Free, Coupled, Coupling, Low}
use Rattle.ac_base.specs.Shape.{full_of, coded_of, span_of}
use Rattle.ac_base.specs.Spans.{greatest_kind}
use Rattle.ac_base.specs.Words.{IsWord, IsUniform, UniformIsAssignment, low_word, word_of}

-- ---- LFE's word
low-length : (ks : List ℕ) → length (low_word ks) ≡ length ks
low-length [] = refl
low-length (k ∷ ks) = omega (arith, low-length ks)

some_code : (k : ℕ) → eqb (suc k) 0 ≡ false
some_code k = ne_eqb (suc k) 0 (omega arith)

low_code : (ks : List ℕ) (j : ℕ) → slice_index (low_word ks) j ≤ 1
low_code [] j = omega arith
low_code (zero ∷ ks) zero = omega arith
low_code (suc k ∷ ks) zero = rw (some_code k) (omega arith)
low_code (k ∷ ks) (suc j) = low_code ks j

low_first : (ks : List ℕ) → 1 ≤ slice_index ks 0 → 1 ≤ slice_index (low_word ks) 0
low_first [] some = some
low_first (zero ∷ ks) some = absurd (omega arith)
low_first (suc k ∷ ks) some = rw (some_code k) (omega arith)

low_is_word : (ks : List ℕ) → IsWord ks → IsWord (low_word ks)
low_is_word ks is = record {
  long = low-length ks ∙ is.long;
  sends = low_first ks is.sends;
  small = λ block l. omega (arith, low_code ks block);
}

-- ---- the kinds of the other channels
least_kind : (lead : Lead) → 1 ≤ greatest_kind lead
least_kind Free = omega arith
least_kind Coupled = omega arith
least_kind Coupling = omega arith
least_kind Low = omega arith

full_kind : (acmod bw : ℕ) (couple : Option (ℕ × ℕ)) (c : ℕ) → c < coded_of acmod false couple → greatest_kind (span_of acmod bw couple c).lead ≡ 3
full_kind acmod bw None c l = let t : nat_lt c (full_of acmod) ≡ true = lt-ltb _ _ (omega arith) in rw t refl
full_kind acmod bw (Some p) c l =
    elim (cases_lt c (full_of acmod)) [
      | inl less ↦ let t : nat_lt c (full_of acmod) ≡ true = lt-ltb _ _ less in rw t refl
      | inr more ↦
          let f : nat_lt c (full_of acmod) ≡ false = le-ltb _ _ more in
          let same : c ≡ full_of acmod = omega arith in
          let t : nat_eq c (full_of acmod) ≡ true = eq-eqb c (full_of acmod) same in
          rw (f, t) refl
    ]

-- ---- each coded channel has the word or, as LFE, the word beside it
abbrev HasWord : Bool → Option (ℕ × ℕ) → ℕ → List (List ℕ) → List ℕ → ℕ → Type 0
HasWord lfe couple acmod assign word c =
    ((c < coded_of acmod false couple) × (word_of assign c ≡ word)) ⊎ (word_of assign c ≡ low_word word)

has_word : (acmod : ℕ) (lfe : Bool) (couple : Option (ℕ × ℕ)) (assign : List (List ℕ)) (is : IsUniform acmod lfe couple assign) (c : ℕ) → c < coded_of acmod lfe couple → HasWord lfe couple acmod assign is.word c
has_word acmod false couple assign is c l = inl (l, is.others c l)
has_word acmod true couple assign is c l =
    elim (cases_lt c (coded_of acmod false couple)) [
      | inl less ↦ inl (less, is.others c less)
      | inr more ↦
          let last : c ≡ coded_of acmod false couple = omega arith in
          inr (ap (word_of assign) last ∙ is.low refl)
    ]

pub uniform : UniformIsAssignment
uniform acmod lfe bw couple assign is = record {
  words = λ c l. elim (has_word acmod lfe couple assign is c l) [
    | inl h ↦ subst IsWord (sym h.1) is.is_word
    | inr h ↦ subst IsWord (sym h) (low_is_word is.word is.is_word)
  ];
  kinds = λ c block l b. elim (has_word acmod lfe couple assign is c l) [
    | inl h ↦
        let same : slice_index (word_of assign c) block ≡ slice_index is.word block = ap (λ w. slice_index w block) h.1 in
        omega (arith, same, is.is_word.small block b, full_kind acmod bw couple c h.0)
    | inr h ↦
        let same : slice_index (word_of assign c) block ≡ slice_index (low_word is.word) block = ap (λ w. slice_index w block) h in
        omega (arith, same, low_code is.word block, least_kind (span_of acmod bw couple c).lead)
  ];
}
