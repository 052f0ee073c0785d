-- No assignment costs less than the cheapest at offset 0.
use Rattle.std.proofs.Common.{◌≡◌, ◌⊎◌, ℕ, zero, suc, ◌+◌, ◌-◌, ◌/◌, ◌<◌, ◌≤◌, Bool, true, false, List, [], ◌∷◌, length, replicate, slice_index, slice_index_or, Option, refl, sym, ap, ap₂, ◌∙◌, inl, inr, subst, arith}
use Rattle.std.specs.Prelude.{if◌then◌else◌, ◌==◌}
use Rattle.std.proofs.lemmas.Bool.{cases_eq, cases_lt, ne_eqb}
use Rattle.std.proofs.Math.ListN.{get_or-append}
use Rattle.std.proofs.Math.ListN.{length-replicate}
use Rattle.std.proofs.lemmas.List.{get_or-append_right, get_or-replicate}
use Rattle.ac_base.specs.declared.shapes.Shape.{Shape}
use Rattle.ac_base.specs.declared.sizes.Parts.{Parts}
use Rattle.ac_base.specs.declared.spans.Span.{Span}
use Rattle.ac_base.specs.declared.spans.Lead.{Lead}
use Rattle.ac_base.specs.declared.spans.Lead.TheVariants.{Free, Coupled, Coupling, Low}
use Rattle.ac_base.specs.Counts.{none, with_one, joined, exact_of}
use Rattle.ac_base.specs.Fit.{tally_channels, tally_bins, mantissas_in, exponents_in, exponent_bits, list_bits, block_cost, side_of}
use Rattle.ac_base.specs.Shape.{coded_of, span_of}
use Rattle.ac_base.specs.Sigma.{sum_below}
use Rattle.ac_base.specs.Spans.{is_coupling, groups_of, greatest_kind}
use Rattle.ac_base.specs.Words.{IsWord, word_of}
use Rattle.ac_base.proofs.ByRuns.{sum_more, sum_none, sum_zero}
use Rattle.ac_expo.specs.Raw.{channels, channel_span}
use Rattle.ac_cost.specs.Runs.{IsAssignmentOf, run_with}
use Rattle.ac_cost.specs.Pointers.{pointers}
use Rattle.ac_cost.specs.Parts.{parts_at, FitsAt, cheapest_words, cheapest_assign}
use Rattle.ac_cost.specs.Laws.{FeasibleMakesCheapestFit}
use Rattle.ac_cost.proofs.Assigning.{low-lead, full-kind}
use Rattle.ac_cost.proofs.Bounding.{channels_none, channels_more}
use Rattle.ac_base.proofs.SpanBounds.{span_some}
use Rattle.ac_cost.proofs.Exponents.{span_of_shape}
use Rattle.ac_cost.proofs.Covering.{sum_same-below}
use Rattle.ac_cost.proofs.Pricing.{run_bap-silent}
use Rattle.ac_cost.proofs.Tallying.{bins_none, bins_more}

-- ---- nothing is sent for pointers of 0
silent-bins : (bap : ℕ → ℕ) (from n : ℕ) → ((k : ℕ) → bap k ≡ 0) → tally_bins bap from n ≡ none
silent-bins bap from zero zeros = bins_none bap from
silent-bins bap from (suc n) zeros =
    bins_more bap from n ∙ (ap₂ with_one (silent-bins bap from n zeros) (zeros (from + n)) ∙ refl)

silent-channels : (span : ℕ → Span) (n : ℕ) (bap : ℕ → ℕ → ℕ) → ((c k : ℕ) → bap c k ≡ 0) → tally_channels span n bap ≡ none
silent-channels span zero bap zeros = channels_none span bap
silent-channels span (suc n) bap zeros =
    channels_more span n bap
    ∙ (ap₂ joined (silent-channels span n bap zeros) (silent-bins (bap n) (span n).start ((span n).end - (span n).start) (zeros n)) ∙ refl)

pub silent-block : (shape : Shape) (raw : List (List (List ℕ))) (assign : List (List ℕ)) (b : ℕ) → mantissas_in (channel_span shape) (channels shape) (pointers shape raw 0 assign) b ≡ 0
silent-block shape raw assign b =
    ap exact_of (silent-channels (channel_span shape) (channels shape) (λ c. pointers shape raw 0 assign c b) (λ c k. run_bap-silent shape raw c (run_with _ b) k))

-- ---- fewest groups
fewer-two : (coupling : Bool) (bins end : ℕ) → (if coupling then bins / 12 else (end + 8) / 12) ≤ (if coupling then bins / 6 else (end + 2) / 6)
fewer-two true bins end = omega arith
fewer-two false bins end = omega arith

fewer-one : (coupling : Bool) (bins end : ℕ) → 0 < end → (if coupling then bins / 12 else (end + 8) / 12) ≤ (if coupling then bins / 3 else (end - 1) / 3)
fewer-one true bins end some = omega arith
fewer-one false bins end some = omega arith

abbrev IsOneOf : ℕ → Type 0
IsOneOf kind = (kind ≡ 1) ⊎ ((kind ≡ 2) ⊎ (kind ≡ 3))

one_of : (kind : ℕ) → 1 ≤ kind → kind ≤ 3 → IsOneOf kind
one_of kind l m =
    elim (cases_eq kind 1) [
      | inl e ↦ inl e
      | inr other ↦ elim (cases_eq kind 2) [ inl e ↦ inr (inl e) | inr last ↦ inr (inr (omega arith)) ]
    ]

fewer : (span : Span) (kind : ℕ) → 0 < span.end → IsOneOf kind → groups_of 3 span ≤ groups_of kind span
unfolding groups_of
fewer span kind some is =
    let P : ℕ → Type 0 = λ k. groups_of 3 span ≤ groups_of k span in
    elim is [
      | inl e ↦ subst P (sym e) (fewer-one (is_coupling span.lead) (span.end - span.start) span.end some)
      | inr rest ↦
          elim rest [
            | inl e ↦ subst P (sym e) (fewer-two (is_coupling span.lead) (span.end - span.start) span.end)
            | inr e ↦ subst P (sym e) (omega arith)
          ]
    ]

list-rises : (lead : Lead) (m n : ℕ) → m ≤ n → list_bits lead m ≤ list_bits lead n
list-rises Free m n l = omega arith
list-rises Coupled m n l = omega arith
list-rises Coupling m n l = omega arith
list-rises Low m n l = omega arith

bits-fewest : (span : Span) (kind : ℕ) → 0 < span.end → 1 ≤ kind → kind ≤ 3 → exponent_bits 3 span ≤ exponent_bits kind span
bits-fewest span kind some l m =
    let e : (kind == 0) ≡ false = ne_eqb kind 0 (omega arith) in
    rw e (list-rises span.lead (groups_of 3 span) (groups_of kind span) (fewer span kind some (one_of kind l m)))

-- ---- the words
abbrev most : List ℕ
most = 3 ∷ 0 ∷ 0 ∷ 0 ∷ 0 ∷ 0 ∷ []

abbrev low : List ℕ
low = 1 ∷ 0 ∷ 0 ∷ 0 ∷ 0 ∷ 0 ∷ []

late-code : (k : ℕ) (block : ℕ) → slice_index (k ∷ 0 ∷ 0 ∷ 0 ∷ 0 ∷ 0 ∷ []) (suc block) ≡ 0
late-code k zero = refl
late-code k (suc zero) = refl
late-code k (suc (suc zero)) = refl
late-code k (suc (suc (suc zero))) = refl
late-code k (suc (suc (suc (suc zero)))) = refl
late-code k (suc (suc (suc (suc (suc block))))) = refl

-- what the cheapest assignment has for a channel
abbrev HasCheapWord : ℕ → Bool → Option (ℕ × ℕ) → ℕ → ℕ → Type 0
HasCheapWord acmod lfe couple bw c =
    (word_of (cheapest_words acmod lfe couple) c ≡ most)
    ⊎ ((word_of (cheapest_words acmod lfe couple) c ≡ low) × ((span_of acmod bw couple c).lead ≡ Low))

last-word : (acmod : ℕ) (lfe : Bool) (couple : Option (ℕ × ℕ)) (bw c : ℕ) → c < coded_of acmod lfe couple → coded_of acmod false couple ≤ c → (word_of (cheapest_words acmod lfe couple) c ≡ low) × ((span_of acmod bw couple c).lead ≡ Low)
last-word acmod false couple bw c l last = absurd (omega arith)
last-word acmod true couple bw c l last =
    let n = coded_of acmod false couple in
    let here : c ≡ n = omega arith in
    let none : c - n ≡ 0 = omega arith in (
      get_or-append_right (replicate n most) (low ∷ []) n c [] (length-replicate n most) last ∙ ap (λ k. slice_index_or (low ∷ []) k []) none,
      ap (λ k. (span_of acmod bw couple k).lead) here ∙ low-lead acmod bw couple,
    )

cheap-word : (acmod : ℕ) (lfe : Bool) (couple : Option (ℕ × ℕ)) (bw c : ℕ) → c < coded_of acmod lfe couple → HasCheapWord acmod lfe couple bw c
cheap-word acmod lfe couple bw c l =
    let n = coded_of acmod false couple in
    let rest : List (List ℕ) = if lfe then low ∷ [] else [] in
    let long : length (replicate n most) ≡ n = length-replicate n most in
    elim (cases_lt c n) [
      | inl early ↦ inl (get_or-append (replicate n most) rest [] c (omega (arith, long)) ∙ get_or-replicate n c most [] early)
      | inr last ↦ inr (last-word acmod lfe couple bw c l last)
    ]

-- each code costs at least the cheapest one
code-fewest : (span : Span) (word : List ℕ) (codes : List ℕ) (b : ℕ) → 0 < span.end → IsWord codes → (slice_index codes b ≤ greatest_kind span.lead) → (word ≡ most) ⊎ ((word ≡ low) × (span.lead ≡ Low)) → exponent_bits (slice_index word b) span ≤ exponent_bits (slice_index codes b) span
code-fewest span word codes zero some is taken has =
    elim has [
      | inl e ↦ let x = ap (λ w. exponent_bits (slice_index w 0) span) e in omega (arith, x, bits-fewest span (slice_index codes 0) some is.sends (is.small 0 (omega arith)))
      | inr e ↦
          let one : greatest_kind span.lead ≡ 1 = ap greatest_kind e.1 in
          let same : slice_index codes 0 ≡ 1 = omega (arith, is.sends, taken, one) in
          let x = ap (λ w. exponent_bits (slice_index w 0) span) e.0 in
          let y = ap (λ k. exponent_bits k span) same in
          omega (arith, x, y)
    ]
code-fewest span word codes (suc b) some is taken has =
    let none : slice_index word (suc b) ≡ 0 =
    elim has [
      | inl e ↦ ap (λ w. slice_index w (suc b)) e ∙ late-code 3 b
      | inr e ↦ ap (λ w. slice_index w (suc b)) e.0 ∙ late-code 1 b
    ] in
    let x = ap (λ k. exponent_bits k span) none in
    omega (arith, x)

-- ---- sums
sum_rises-below : (n : ℕ) (f g : ℕ → ℕ) → ((k : ℕ) → k < n → f k ≤ g k) → sum_below n f ≤ sum_below n g
sum_rises-below zero f g h = omega (arith, sum_none f, sum_none g)
sum_rises-below (suc n) f g h =
    omega (arith, sum_more n f, sum_more n g, sum_rises-below n f g (λ k l. h k (omega arith)), h n (omega arith))

module _ (shape : Shape) (raw : List (List (List ℕ))) (t : ℕ) (assign : List (List ℕ)) (is : IsAssignmentOf shape assign) where
  abbrev cheap : List (List ℕ)
  cheap = cheapest_assign shape

  abbrev cost : ℕ → List (List ℕ) → ℕ → ℕ
  cost u a = block_cost shape.acmod shape.lfe shape.bw shape.couple a (pointers shape raw u a)

  block-fewest : (b : ℕ) → b < 6 → cost 0 cheap b ≤ cost t assign b
  block-fewest b l =
      let none = silent-block shape raw cheap b in
      let bits : List (List ℕ) → ℕ → ℕ = λ a c. exponent_bits (slice_index (word_of a c) b) (channel_span shape c) in
      let fewest = sum_rises-below (channels shape) (bits cheap) (bits assign)
      (λ c m. code-fewest (channel_span shape c) (word_of cheap c) (word_of assign c) b (omega (arith, span_some (channel_span shape c) (span_of_shape shape c))) (is.words c m) (is.kinds c b m l) (cheap-word shape.acmod shape.lfe shape.couple shape.bw c m)) in
      omega (arith, none, fewest)

  blocks-fewest : (n : ℕ) → n ≤ 6 → sum_below n (cost 0 cheap) ≤ sum_below n (cost t assign)
  blocks-fewest n l = sum_rises-below n (cost 0 cheap) (cost t assign) (λ b m. block-fewest b (omega arith))

  cheapest-fits : FitsAt shape raw t assign → FitsAt shape raw 0 cheap
  cheapest-fits fits = record {
    in_front = omega (arith, blocks-fewest 2 (omega arith), fits.in_front);
    whole = omega (arith, blocks-fewest 6 (omega arith), fits.whole);
    at_end = omega (arith, silent-block shape raw cheap 5, fits.at_end);
  }

pub cheapest : FeasibleMakesCheapestFit
cheapest shape raw t feasible = cheapest-fits shape raw t feasible.assign feasible.is_assignment feasible.fits

-- ---- what the cheapest costs
early-code : (shape : Shape) (c : ℕ) → c < coded_of shape.acmod false shape.couple → slice_index (word_of (cheapest_assign shape) c) 0 ≡ greatest_kind (channel_span shape c).lead
early-code shape c early =
    let n = coded_of shape.acmod false shape.couple in
    let rest : List (List ℕ) = if shape.lfe then low ∷ [] else [] in
    let long : length (replicate n most) ≡ n = length-replicate n most in
    let word : word_of (cheapest_assign shape) c ≡ most = get_or-append (replicate n most) rest [] c (omega (arith, long)) ∙ get_or-replicate n c most [] early in
    ap (λ ws. slice_index ws 0) word ∙ sym (full-kind shape.acmod shape.bw shape.couple c early)

cheap-later : (shape : Shape) (c b : ℕ) → c < channels shape → slice_index (word_of (cheapest_assign shape) c) (suc b) ≡ 0
cheap-later shape c b l =
    elim (cheap-word shape.acmod shape.lfe shape.couple shape.bw c l) [
      | inl e ↦ ap (λ w. slice_index w (suc b)) e ∙ late-code 3 b
      | inr e ↦ ap (λ w. slice_index w (suc b)) e.0 ∙ late-code 1 b
    ]

pub cheap-code : (shape : Shape) (c : ℕ) → c < channels shape → slice_index (word_of (cheapest_assign shape) c) 0 ≡ greatest_kind (channel_span shape c).lead
cheap-code shape c l =
    let n = coded_of shape.acmod false shape.couple in
    elim (cases_lt c n) [
      | inl early ↦ early-code shape c early
      | inr last ↦
          let w = last-word shape.acmod shape.lfe shape.couple shape.bw c l last in
          ap (λ ws. slice_index ws 0) w.0 ∙ sym (ap greatest_kind w.1)
    ]

later-none : (shape : Shape) (b : ℕ) → exponents_in (channel_span shape) (channels shape) (cheapest_assign shape) (suc b) ≡ 0
later-none shape b =
    let bits : ℕ → ℕ = λ c. exponent_bits (slice_index (word_of (cheapest_assign shape) c) (suc b)) (channel_span shape c) in
    sum_same-below (channels shape) bits (λ c. 0) (λ c l. ap (λ k. exponent_bits k (channel_span shape c)) (cheap-later shape c b l)) ∙ sum_zero (channels shape)

sum_first : (n : ℕ) (f : ℕ → ℕ) → ((k : ℕ) → f (suc k) ≡ 0) → sum_below (suc n) f ≡ f 0
sum_first zero f none = sum_more 0 f ∙ (let z = sum_none f in omega (arith, z))
sum_first (suc n) f none = sum_more (suc n) f ∙ (let rest = sum_first n f none in omega (arith, rest, none n))

cheap-cost : (shape : Shape) (raw : List (List (List ℕ))) (n : ℕ) → sum_below (suc n) (block_cost shape.acmod shape.lfe shape.bw shape.couple (cheapest_assign shape) (pointers shape raw 0 (cheapest_assign shape))) ≡ exponents_in (channel_span shape) (channels shape) (cheapest_assign shape) 0
cheap-cost shape raw n =
    let f = block_cost shape.acmod shape.lfe shape.bw shape.couple (cheapest_assign shape) (pointers shape raw 0 (cheapest_assign shape)) in
    let silent = silent-block shape raw (cheapest_assign shape) in
    let first = sum_first n f (λ k. omega (arith, later-none shape k, silent (suc k))) in
    omega (arith, first, silent 0)

pub cheapest-is : (shape : Shape) (raw : List (List (List ℕ))) (side : Parts) (exponents : ℕ) → side ≡ side_of shape.acmod shape.lfe shape.couple → exponents ≡ exponents_in (channel_span shape) (channels shape) (cheapest_assign shape) 0 → record { front = side.front + exponents; total = side.total + exponents; last = 0 } ≡ parts_at shape raw 0 (cheapest_assign shape)
cheapest-is shape raw side exponents es ee =
    let x = cheap-cost shape raw 1 in
    let y = cheap-cost shape raw 5 in
    let front : side.front + exponents ≡ (parts_at shape raw 0 (cheapest_assign shape)).front = let s = ap (λ (p : Parts). p.front) es in omega (arith, s, ee, x) in
    let total : side.total + exponents ≡ (parts_at shape raw 0 (cheapest_assign shape)).total = let s = ap (λ (p : Parts). p.total) es in omega (arith, s, ee, y) in
    let last = sym (silent-block shape raw (cheapest_assign shape) 5) in
    λ i. record { front = front i; total = total i; last = last i }
