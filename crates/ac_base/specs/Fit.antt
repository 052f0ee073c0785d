-- What an assignment of strategies costs in a frame, and when it fits. A table gives the bit allocation pointer of each bin, by coded
-- channel, block and bin. The rows are those of A/52 5.3.3, the groups those of 7.1.3 and 7.3.5; the parts and their rooms are this
-- project's own.
use Rattle.std.specs.Prelude.{◌≡◌, ℕ, zero, suc, ◌+◌, ◌-◌, ◌*◌, ◌≤◌, ◌==◌, nat_lt, if◌then◌else◌, Bool, Option, List, [], ◌∷◌, slice_index}
use Rattle.ac_base.specs.declared.spans.Lead.{Lead}
use Rattle.ac_base.specs.declared.spans.Lead.TheVariants.{Free, Coupled, Coupling, Low}
use Rattle.ac_base.specs.declared.spans.Span.{Span}
use Rattle.ac_base.specs.declared.runs.Run.{Run}
use Rattle.ac_base.specs.declared.sizes.Parts.{Parts}
use Rattle.ac_base.specs.Counts.{Tally, none, with_one, joined, exact_of}
use Rattle.ac_base.specs.Shape.{coded_of, span_of}
use Rattle.ac_base.specs.SideBits.{side_front, side_total}
use Rattle.ac_base.specs.Sigma.{sum_below}
use Rattle.ac_base.specs.Sizes.{front_room, end_room, tail_bits, skip_spare}
use Rattle.ac_base.specs.Spans.{groups_of}
use Rattle.ac_base.specs.Words.{runs_of, word_of}

-- ---- exponents

-- the bits of a list of so many groups: 7 for each, 4 for the first exponent; 6 for chbwcod, 2 for gainrng (A/52 5.3.3)
abbrev pub list_bits : Lead → ℕ → ℕ
list_bits Free groups = 6 + 4 + 7 * groups + 2
list_bits Coupled groups = 4 + 7 * groups + 2
list_bits Coupling groups = 4 + 7 * groups
list_bits Low groups = 4 + 7 * groups

-- the exponent bits of a channel in a block, by its strategy code: none where it reuses
abbrev pub exponent_bits : ℕ → Span → ℕ
exponent_bits code span = if code == 0 then 0 else list_bits span.lead (groups_of code span)

-- those of the first n coded channels in block b
abbrev pub exponents_in : (ℕ → Span) → ℕ → List (List ℕ) → ℕ → ℕ
exponents_in span n assign b = sum_below n (λ c. exponent_bits (slice_index (word_of assign c) b) (span c))

-- ---- mantissas

-- those of n bins from a bin on
unfoldable pub tally_bins : (ℕ → ℕ) → ℕ → ℕ → Tally
tally_bins bap from zero = none
tally_bins bap from (suc n) = with_one (tally_bins bap from n) (bap (from + n))

-- those of the bins of a span
abbrev pub tally_span : (ℕ → ℕ) → Span → Tally
tally_span bap span = tally_bins bap span.start (span.end - span.start)

-- those of the first n coded channels, by channel and bin
unfoldable pub tally_channels : (ℕ → Span) → ℕ → (ℕ → ℕ → ℕ) → Tally
tally_channels span zero bap = none
tally_channels span (suc c) bap = joined (tally_channels span c bap) (tally_span (bap c) (span c))

-- the bits of block b's mantissas
abbrev pub mantissas_in : (ℕ → Span) → ℕ → (ℕ → ℕ → ℕ → ℕ) → ℕ → ℕ
mantissas_in span n bap b = exact_of (tally_channels span n (λ c. bap c b))

-- ---- the parts of a frame

-- the bits of block b's exponents and mantissas, in a frame of this shape
abbrev pub block_cost : ℕ → Bool → ℕ → Option (ℕ × ℕ) → List (List ℕ) → (ℕ → ℕ → ℕ → ℕ) → ℕ → ℕ
block_cost acmod lfe chbwcod couple assign bap b =
    let span = span_of acmod chbwcod couple in
    let coded = coded_of acmod lfe couple in
    exponents_in span coded assign b + mantissas_in span coded bap b

-- the side bits of each part: the mantissas of block 5 have none
abbrev pub side_of : ℕ → Bool → Option (ℕ × ℕ) → Parts
side_of acmod lfe couple = record { front = side_front acmod lfe couple; total = side_total acmod lfe couple; last = 0 }

-- all bits to the end of block 1; all bits of the frame but its padding; the mantissas of block 5
abbrev pub parts_of : ℕ → Bool → ℕ → Option (ℕ × ℕ) → List (List ℕ) → (ℕ → ℕ → ℕ → ℕ) → Parts
parts_of acmod lfe chbwcod couple assign bap = record {
  front = side_front acmod lfe couple + sum_below 2 (block_cost acmod lfe chbwcod couple assign bap);
  total = side_total acmod lfe couple + sum_below 6 (block_cost acmod lfe chbwcod couple assign bap);
  last = mantissas_in (span_of acmod chbwcod couple) (coded_of acmod lfe couple) bap 5;
}

-- the rooms of a frame of so many words: behind the mantissas of block 5 stand auxdatae, crcrsv and crc2, and what a skip field may
-- leave over
abbrev pub rooms_of : ℕ → Parts
rooms_of words = record { front = front_room words; total = 16 * words; last = end_room words - (tail_bits + skip_spare) }

-- parts that fit a frame of so many words
pub record FitIn (words : ℕ) (parts : Parts) : Type 0 where
  pub in_front : parts.front ≤ front_room words
  pub whole : parts.total ≤ 16 * words
  pub at_end : parts.last + tail_bits + skip_spare ≤ end_room words

-- the assignment fits
abbrev pub Fits : ℕ → Bool → ℕ → Option (ℕ × ℕ) → ℕ → List (List ℕ) → (ℕ → ℕ → ℕ → ℕ) → Type 0
Fits acmod lfe chbwcod couple words assign bap = FitIn words (parts_of acmod lfe chbwcod couple assign bap)

-- ---- the same by runs

-- the exponent bits of those of these runs that begin in the first n blocks
abbrev pub run_bits : Span → ℕ → List Run → ℕ
run_bits span n [] = 0
run_bits span n (run ∷ runs) = (if nat_lt run.from n then exponent_bits run.kind span else 0) + run_bits span n runs

-- of the runs of all coded channels
abbrev pub all_run_bits : ℕ → Bool → ℕ → Option (ℕ × ℕ) → List (List ℕ) → ℕ → ℕ
all_run_bits acmod lfe chbwcod couple assign n =
    sum_below (coded_of acmod lfe couple) (λ c. run_bits (span_of acmod chbwcod couple c) n (runs_of (word_of assign c)))

-- the bits of the mantissas of the first n blocks
abbrev pub mantissa_bits : ℕ → Bool → ℕ → Option (ℕ × ℕ) → (ℕ → ℕ → ℕ → ℕ) → ℕ → ℕ
mantissa_bits acmod lfe chbwcod couple bap n = sum_below n (mantissas_in (span_of acmod chbwcod couple) (coded_of acmod lfe couple) bap)

-- the front has the exponents of the runs that begin in blocks 0 and 1, and the whole frame those of all: a law of these definitions
abbrev pub PartsAreByRuns : Type 0
PartsAreByRuns =
    (acmod : ℕ) (lfe : Bool) (chbwcod : ℕ) (couple : Option (ℕ × ℕ)) (assign : List (List ℕ)) (bap : ℕ → ℕ → ℕ → ℕ)
    → ((parts_of acmod lfe chbwcod couple assign bap).front
    ≡ side_front acmod lfe couple + all_run_bits acmod lfe chbwcod couple assign 2 + mantissa_bits acmod lfe chbwcod couple bap 2)
    × ((parts_of acmod lfe chbwcod couple assign bap).total
    ≡ side_total acmod lfe couple + all_run_bits acmod lfe chbwcod couple assign 6 + mantissa_bits acmod lfe chbwcod couple bap 6)
