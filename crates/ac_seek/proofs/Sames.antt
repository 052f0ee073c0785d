-- The words of the coded channels alone tell whether an assignment fits.
use Rattle.std.proofs.Common.{◌≡◌, ℕ, zero, suc, ◌<◌, Bool, true, false, List, slice_index, sym, ap, ap₂, ◌∙◌, subst, arith}
use Rattle.ac_base.specs.declared.shapes.Shape.{Shape}
use Rattle.ac_base.specs.declared.spans.Span.{Span}
use Rattle.ac_base.specs.Counts.{joined, exact_of}
use Rattle.ac_base.specs.Fit.{FitIn, tally_channels, tally_span, exponents_in, exponent_bits, mantissas_in, block_cost}
use Rattle.ac_base.specs.Shape.{coded_of}
use Rattle.ac_base.specs.Spans.{greatest_kind}
use Rattle.ac_base.specs.Words.{runs_of, word_of}
use Rattle.ac_base.proofs.ByRuns.{sum_same}
use Rattle.ac_expo.specs.Raw.{channels, channel_span}
use Rattle.ac_cost.specs.Runs.{IsAssignmentOf, TakesLow, run_with}
use Rattle.ac_cost.specs.Pointers.{run_bap, pointers}
use Rattle.ac_cost.specs.Parts.{parts_at, FitsAt}
use Rattle.ac_cost.proofs.Assigning.{low-lead}
use Rattle.ac_cost.proofs.Bounding.{channels_none, channels_more}
use Rattle.ac_cost.proofs.Covering.{sum_same-below}

channels_same : (span : ℕ → Span) (n : ℕ) (f g : ℕ → ℕ → ℕ) → ((c : ℕ) → c < n → f c ≡ g c) → tally_channels span n f ≡ tally_channels span n g
channels_same span zero f g h = channels_none span f ∙ sym (channels_none span g)
channels_same span (suc n) f g h =
    channels_more span n f
    ∙ (ap₂ joined (channels_same span n f g (λ c l. h c (omega arith))) (ap (λ x. tally_span x (span n)) (h n (omega arith))) ∙ sym (channels_more span n g))

module _ (shape : Shape) (raw : List (List (List ℕ))) (t : ℕ) (assign others : List (List ℕ)) (same : (c : ℕ) → c < channels shape → word_of assign c ≡ word_of others c) where
  abbrev cost : List (List ℕ) → ℕ → ℕ
  cost a = block_cost shape.acmod shape.lfe shape.bw shape.couple a (pointers shape raw t a)

  mantissas_same : (b : ℕ) → mantissas_in (channel_span shape) (channels shape) (pointers shape raw t assign) b ≡ mantissas_in (channel_span shape) (channels shape) (pointers shape raw t others) b
  mantissas_same b =
      ap exact_of (channels_same (channel_span shape) (channels shape) (λ c. pointers shape raw t assign c b) (λ c. pointers shape raw t others c b)
      (λ c l. ap (λ (w : List ℕ). run_bap shape raw t c (run_with (runs_of w) b)) (same c l)))

  exponents_same : (b : ℕ) → exponents_in (channel_span shape) (channels shape) assign b ≡ exponents_in (channel_span shape) (channels shape) others b
  exponents_same b =
      sum_same-below (channels shape) (λ c. exponent_bits (slice_index (word_of assign c) b) (channel_span shape c)) (λ c. exponent_bits (slice_index (word_of others c) b) (channel_span shape c))
      (λ c l. ap (λ w. exponent_bits (slice_index w b) (channel_span shape c)) (same c l))

  costs_same : (b : ℕ) → cost assign b ≡ cost others b
  costs_same b = let m = mantissas_same b in let e = exponents_same b in omega (arith, m, e)

  parts_same : parts_at shape raw t assign ≡ parts_at shape raw t others
  parts_same =
      let two = sum_same 2 (cost assign) (cost others) costs_same in
      let six = sum_same 6 (cost assign) (cost others) costs_same in
      let front : (parts_at shape raw t assign).front ≡ (parts_at shape raw t others).front = omega (arith, two) in
      let total : (parts_at shape raw t assign).total ≡ (parts_at shape raw t others).total = omega (arith, six) in
      let last = mantissas_same 5 in
      λ i. record { front = front i; total = total i; last = last i }

  pub fits_same : FitsAt shape raw t assign → FitsAt shape raw t others
  fits_same fits = subst (FitIn shape.words) parts_same fits

-- ---- LFE takes D15 alone
pub takes-low : (shape : Shape) (assign : List (List ℕ)) → IsAssignmentOf shape assign → TakesLow shape assign
takes-low shape assign is there block b =
    let c = coded_of shape.acmod false shape.couple in
    let count : channels shape ≡ coded_of shape.acmod true shape.couple = ap (λ (lfe : Bool). coded_of shape.acmod lfe shape.couple) there in
    let k = is.kinds c block (omega (arith, count)) b in
    let one = ap greatest_kind (low-lead shape.acmod shape.bw shape.couple) in
    omega (arith, k, one)
