-- The parts of a frame depend on the pointers at the bins of the spans alone.
use Rattle.std.proofs.Common.{◌≡◌, ℕ, zero, suc, ◌+◌, ◌-◌, ◌<◌, ◌≤◌, Bool, List, Option, refl, ap, ap₂, sym, ◌∙◌, arith}
use Rattle.ac_base.specs.declared.spans.Span.{Span}
use Rattle.ac_base.specs.Counts.{none, joined, exact_of}
use Rattle.ac_base.specs.Fit.{tally_span, tally_channels, exponents_in, mantissas_in, block_cost, parts_of, FitIn}
use Rattle.ac_base.specs.Shape.{coded_of, span_of}
use Rattle.ac_base.specs.SideBits.{side_front, side_total}
use Rattle.ac_base.specs.Sigma.{sum_below}
use Rattle.ac_base.specs.Spans.{IsIn}
use Rattle.ac_cost.proofs.Covering.{sum_same-below}
use Rattle.ac_cost.proofs.Tallying.{bins_same}

span_same : (f g : ℕ → ℕ) (span : Span) → ((k : ℕ) → IsIn span k → f k ≡ g k) → tally_span f span ≡ tally_span g span
span_same f g span same = bins_same f g span.start (span.end - span.start) (λ k l m. same k (l, omega (arith, l, m)))

channels_none : (span : ℕ → Span) (f : ℕ → ℕ → ℕ) → tally_channels span 0 f ≡ none
unfolding tally_channels
channels_none span f = refl

channels_more : (span : ℕ → Span) (n : ℕ) (f : ℕ → ℕ → ℕ) → tally_channels span (suc n) f ≡ joined (tally_channels span n f) (tally_span (f n) (span n))
unfolding tally_channels
channels_more span n f = refl

channels_same : (span : ℕ → Span) (n : ℕ) (f g : ℕ → ℕ → ℕ) → ((c k : ℕ) → c < n → IsIn (span c) k → f c k ≡ g c k) → tally_channels span n f ≡ tally_channels span n g
channels_same span zero f g same = channels_none span f ∙ sym (channels_none span g)
channels_same span (suc n) f g same =
    channels_more span n f
    ∙ (ap₂ joined (channels_same span n f g (λ c k lt inside. same c k (omega (arith, lt)) inside)) (span_same (f n) (g n) (span n) (λ k inside. same n k (omega arith) inside))
    ∙ sym (channels_more span n g))

-- two tables of pointers that agree there
abbrev pub TablesAgree : ℕ → Bool → ℕ → Option (ℕ × ℕ) → (ℕ → ℕ → ℕ → ℕ) → (ℕ → ℕ → ℕ → ℕ) → Type 0
TablesAgree acmod lfe bw couple f g = (c b k : ℕ) → c < coded_of acmod lfe couple → b < 6 → IsIn (span_of acmod bw couple c) k → f c b k ≡ g c b k

mantissas_same : (acmod : ℕ) (lfe : Bool) (bw : ℕ) (couple : Option (ℕ × ℕ)) (f g : ℕ → ℕ → ℕ → ℕ) → TablesAgree acmod lfe bw couple f g → (b : ℕ) → b < 6
    → mantissas_in (span_of acmod bw couple) (coded_of acmod lfe couple) f b ≡ mantissas_in (span_of acmod bw couple) (coded_of acmod lfe couple) g b
mantissas_same acmod lfe bw couple f g same b in_frame =
    ap exact_of (channels_same (span_of acmod bw couple) (coded_of acmod lfe couple) (λ c. f c b) (λ c. g c b) (λ c k lt inside. same c b k lt in_frame inside))

block_same : (acmod : ℕ) (lfe : Bool) (bw : ℕ) (couple : Option (ℕ × ℕ)) (assign : List (List ℕ)) (f g : ℕ → ℕ → ℕ → ℕ) → TablesAgree acmod lfe bw couple f g → (b : ℕ) → b < 6
    → block_cost acmod lfe bw couple assign f b ≡ block_cost acmod lfe bw couple assign g b
block_same acmod lfe bw couple assign f g same b in_frame =
    ap (λ (m : ℕ). exponents_in (span_of acmod bw couple) (coded_of acmod lfe couple) assign b + m) (mantissas_same acmod lfe bw couple f g same b in_frame)

sum_same : (n m x : ℕ) (f g : ℕ → ℕ) → n ≤ m → ((b : ℕ) → b < m → f b ≡ g b) → x + sum_below n f ≡ x + sum_below n g
sum_same n m x f g few same = ap (λ (s : ℕ). x + s) (sum_same-below n f g (λ b lt. same b (omega (arith, lt, few))))

pub fits_same : (acmod : ℕ) (lfe : Bool) (bw : ℕ) (couple : Option (ℕ × ℕ)) (words : ℕ) (assign : List (List ℕ)) (f g : ℕ → ℕ → ℕ → ℕ) → TablesAgree acmod lfe bw couple f g
    → FitIn words (parts_of acmod lfe bw couple assign f) → FitIn words (parts_of acmod lfe bw couple assign g)
fits_same acmod lfe bw couple words assign f g same fits =
    let blocks = block_same acmod lfe bw couple assign f g same in
    let front = sum_same 2 6 (side_front acmod lfe couple) (block_cost acmod lfe bw couple assign f) (block_cost acmod lfe bw couple assign g) (omega arith) blocks in
    let whole = sum_same 6 6 (side_total acmod lfe couple) (block_cost acmod lfe bw couple assign f) (block_cost acmod lfe bw couple assign g) (omega arith) blocks in
    let last = mantissas_same acmod lfe bw couple f g same 5 (omega arith) in
    record {
      in_front = omega (arith, fits.in_front, front);
      whole = omega (arith, fits.whole, whole);
      at_end = omega (arith, fits.at_end, last);
    }
