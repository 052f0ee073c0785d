-- Uniform assignments by their words.
use Rattle.std.proofs.Common.{◌≡◌, ℕ, zero, suc, ◌-◌, ◌<◌, ◌≤◌, Bool, true, false, Option, List, [], ◌∷◌, ◌++◌, length, replicate, slice_index, slice_index_or, eqb, refl, sym, ap, ◌∙◌, subst, inl, inr, arith}
use Rattle.std.specs.Prelude.{if◌then◌else◌, ◌==◌}
use Rattle.std.proofs.Math.ListN.{get_or-append, length-replicate}
use Rattle.std.proofs.lemmas.Bool.{cases_lt, ne_eqb}
use Rattle.std.proofs.lemmas.List.{get_or-append_right, get_or-replicate}
use Rattle.ac_base.specs.declared.shapes.Shape.{Shape}
use Rattle.ac_base.specs.Shape.{coded_of}
use Rattle.ac_base.specs.Words.{IsWord, low_word, word_of}
use Rattle.ac_base.proofs.Assignments.{uniform}
use Rattle.ac_expo.specs.Words.{word_list}
use Rattle.ac_expo.proofs.Numbers.{each}
use Rattle.ac_cost.specs.Parts.{FitsAt, cheapest_assign}
use Rattle.ac_cost.specs.Runs.{IsAssignmentOf}
use Rattle.ac_bound.proofs.Offsets.{most, code_most}
use Rattle.ac_seek.proofs.Sames.{fits_same}
use Rattle.ac_plan.specs.Uniform.{IsUniformBy, IsUniformOf, UniformFits}

-- ---- LFE's word
abbrev pub low_code : ℕ → ℕ
low_code k = if k == 0 then 0 else 1

abbrev pub low_codes : List ℕ → List ℕ
low_codes w =
    low_code (slice_index w 0) ∷ low_code (slice_index w 1) ∷ low_code (slice_index w 2) ∷ low_code (slice_index w 3)
    ∷ low_code (slice_index w 4) ∷ low_code (slice_index w 5) ∷ []

pub low_each : (w : List ℕ) → length w ≡ 6 → low_codes w ≡ low_word w
low_each (a ∷ b ∷ c ∷ d ∷ e ∷ f ∷ []) long = refl
low_each [] long = absurd (omega (arith, long))
low_each (a ∷ []) long = absurd (omega (arith, long))
low_each (a ∷ b ∷ []) long = absurd (omega (arith, long))
low_each (a ∷ b ∷ c ∷ []) long = absurd (omega (arith, long))
low_each (a ∷ b ∷ c ∷ d ∷ []) long = absurd (omega (arith, long))
low_each (a ∷ b ∷ c ∷ d ∷ e ∷ []) long = absurd (omega (arith, long))
low_each (a ∷ b ∷ c ∷ d ∷ e ∷ f ∷ g ∷ w) long = absurd (omega (arith, long))

pub some_code : (k : ℕ) → eqb (suc k) 0 ≡ false
some_code k = ne_eqb (suc k) 0 (omega arith)

code_few : (k : ℕ) → low_code k ≤ 1
code_few zero = omega arith
code_few (suc k) = rw (some_code k) (omega arith)

code_some : (k : ℕ) → 1 ≤ k → 1 ≤ low_code k
code_some zero some = absurd (omega (arith, some))
code_some (suc k) some = rw (some_code k) (omega arith)

each_few : (w : List ℕ) (block : ℕ) → slice_index (low_codes w) block ≤ 3
each_few w zero = omega (arith, code_few (slice_index w 0))
each_few w (suc zero) = omega (arith, code_few (slice_index w 1))
each_few w (suc (suc zero)) = omega (arith, code_few (slice_index w 2))
each_few w (suc (suc (suc zero))) = omega (arith, code_few (slice_index w 3))
each_few w (suc (suc (suc (suc zero)))) = omega (arith, code_few (slice_index w 4))
each_few w (suc (suc (suc (suc (suc zero))))) = omega (arith, code_few (slice_index w 5))
each_few w (suc (suc (suc (suc (suc (suc block)))))) = omega arith

pub low_is : (w : List ℕ) → IsWord w → IsWord (low_codes w)
low_is w is = record {
  long = refl;
  sends = code_some (slice_index w 0) is.sends;
  small = λ block l. each_few w block;
}

-- ---- one word, one cost
same_words : (acmod : ℕ) (lfe : Bool) (couple : Option (ℕ × ℕ)) (word : List ℕ) (a b : List (List ℕ)) → ((c : ℕ) → c < coded_of acmod false couple → word_of a c ≡ word) → (lfe ≡ true → word_of a (coded_of acmod false couple) ≡ low_word word) → ((c : ℕ) → c < coded_of acmod false couple → word_of b c ≡ word) → (lfe ≡ true → word_of b (coded_of acmod false couple) ≡ low_word word) → (c : ℕ) → c < coded_of acmod lfe couple → word_of a c ≡ word_of b c
same_words acmod false couple word a b oa la ob lb c l = oa c l ∙ sym (ob c l)
same_words acmod true couple word a b oa la ob lb c l =
    elim (cases_lt c (coded_of acmod false couple)) [
      | inl less ↦ oa c less ∙ sym (ob c less)
      | inr more ↦
          let last : c ≡ coded_of acmod false couple = omega arith in
          ap (word_of a) last ∙ la refl ∙ sym (ap (word_of b) last ∙ lb refl)
    ]

pub fits_alike : (shape : Shape) (raw : List (List (List ℕ))) (t : ℕ) (word : List ℕ) (a b : List (List ℕ)) → IsUniformBy shape word a → IsUniformBy shape word b → FitsAt shape raw t a → FitsAt shape raw t b
fits_alike shape raw t word a b x y fits =
    fits_same shape raw t a b (same_words shape.acmod shape.lfe shape.couple word a b x.others x.low y.others y.low) fits

pub uniform_by : (shape : Shape) (word : List ℕ) (assign : List (List ℕ)) → IsWord word → IsUniformBy shape word assign → IsUniformOf shape assign
uniform_by shape word assign is by = record { word = word; is_word = is; others = by.others; low = by.low }

pub assignment : (shape : Shape) (assign : List (List ℕ)) → IsUniformOf shape assign → IsAssignmentOf shape assign
assignment shape assign is = uniform shape.acmod shape.lfe shape.bw shape.couple assign is

-- where the assignments of no word fit, no uniform one does
pub no_word : (shape : Shape) (raw : List (List (List ℕ))) (t : ℕ) → ((i : ℕ) (assign : List (List ℕ)) → i < 3072 → IsUniformBy shape (word_list i) assign → FitsAt shape raw t assign → ⊥) → UniformFits shape raw t → ⊥
no_word shape raw t none u =
    let n = each u.is_uniform.word u.is_uniform.is_word in
    let by : IsUniformBy shape u.is_uniform.word u.assign = record { others = u.is_uniform.others; low = u.is_uniform.low } in
    none n.0 u.assign n.1.0 (subst (λ w. IsUniformBy shape w u.assign) (sym n.1.1) by) u.fits

-- ---- the cheapest assignment is uniform
last_word : (n : ℕ) (lfe : Bool) → lfe ≡ true → word_of (replicate n most ++ (if lfe then (1 ∷ 0 ∷ 0 ∷ 0 ∷ 0 ∷ 0 ∷ []) ∷ [] else [])) n ≡ low_word most
last_word n lfe there =
    let rest : List (List ℕ) = if lfe then (1 ∷ 0 ∷ 0 ∷ 0 ∷ 0 ∷ 0 ∷ []) ∷ [] else [] in
    let none : n - n ≡ 0 = omega arith in
    let right = get_or-append_right (replicate n most) rest n n [] (length-replicate n most) (omega arith) in
    let one : slice_index_or rest (n - n) [] ≡ low_word most =
    ap (λ k. slice_index_or rest k []) none ∙ ap (λ (b : Bool). slice_index_or (if b then (1 ∷ 0 ∷ 0 ∷ 0 ∷ 0 ∷ 0 ∷ []) ∷ [] else []) 0 []) there in
    right ∙ one

pub cheapest_by : (shape : Shape) → IsUniformBy shape most (cheapest_assign shape)
cheapest_by shape =
    let n = coded_of shape.acmod false shape.couple in
    let rest : List (List ℕ) = if shape.lfe then (1 ∷ 0 ∷ 0 ∷ 0 ∷ 0 ∷ 0 ∷ []) ∷ [] else [] in
    let long : length (replicate n most) ≡ n = length-replicate n most in
    record {
      others = λ c l. get_or-append (replicate n most) rest [] c (omega (arith, long)) ∙ get_or-replicate n c most [] l;
      low = λ there. last_word n shape.lfe there;
    }

pub most_is : IsWord most
most_is = record { long = refl; sends = omega arith; small = λ block l. code_most block }
