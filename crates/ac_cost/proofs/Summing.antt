-- Costs of blocks, channel by channel, and of the parts by blocks.
use Rattle.std.proofs.Common.{◌≡◌, ℕ, suc, ◌+◌, ◌<◌, ◌≤◌, List, [], slice_index, slice_index_or, sym, ap, ap₂, ◌∙◌, arith}
use Rattle.ac_base.specs.declared.runs.Run.{Run}
use Rattle.ac_base.specs.declared.shapes.Shape.{Shape}
use Rattle.ac_base.specs.declared.spans.Span.{Span}
use Rattle.ac_base.specs.declared.sizes.Parts.{Parts}
use Rattle.ac_base.specs.Counts.{Tally, joined}
use Rattle.ac_base.specs.Fit.{exponents_in, exponent_bits, tally_channels, block_cost, side_of}
use Rattle.ac_base.specs.Sigma.{sum_below}
use Rattle.ac_base.specs.Words.{word_of, runs_of}
use Rattle.ac_base.proofs.ByRuns.{sum_more, sum_none, sum_both}
use Rattle.ac_expo.specs.Raw.{channels, channel_span}
use Rattle.ac_mant.specs.declared.counts.Counts.{Counts}
use Rattle.ac_mant.specs.Counts.{tally}
use Rattle.ac_cost.specs.Runs.{run_with}
use Rattle.ac_cost.specs.Pointers.{run_tally, pointers}
use Rattle.ac_cost.specs.Parts.{parts_at}
use Rattle.ac_cost.specs.Prices.{AreFew}
use Rattle.ac_cost.specs.Records.{AtOffset}
use Rattle.ac_cost.specs.Blocks.{exponents_at, mantissas_at}
use Rattle.ac_cost.proofs.Bounding.{channels_more}
use Rattle.ac_cost.proofs.Covering.{sum_same-below}

pub exponents-none : (span : ℕ → Span) (assign : List (List ℕ)) (b : ℕ) → 0 ≡ exponents_in span 0 assign b
exponents-none span assign b = sym (sum_none (λ c. exponent_bits (slice_index (word_of assign c) b) (span c)))

pub exponents-more : (span : ℕ → Span) (n : ℕ) (assign : List (List ℕ)) (b : ℕ) → exponents_in span (n + 1) assign b ≡ exponents_in span n assign b + exponent_bits (slice_index (word_of assign n) b) (span n)
exponents-more span n assign b =
    let f : ℕ → ℕ = λ c. exponent_bits (slice_index (word_of assign c) b) (span c) in
    let e : n + 1 ≡ suc n = omega arith in
    ap (λ m. sum_below m f) e ∙ sum_more n f

-- the mantissas of one channel more
pub counts-more : (v : AtOffset) (assign : List (List ℕ)) (b c : ℕ) (run : Run) (so here all : Counts) → run ≡ run_with (runs_of (word_of assign c)) b → tally so ≡ tally_channels (channel_span v.shape) c (λ d. pointers v.shape v.raw v.t assign d b) → tally here ≡ run_tally v.shape v.raw v.t c run → tally all ≡ joined (tally so) (tally here) → tally all ≡ tally_channels (channel_span v.shape) (c + 1) (λ d. pointers v.shape v.raw v.t assign d b)
counts-more v assign b c run so here all er es eh ea =
    let bap : ℕ → ℕ → ℕ = λ d. pointers v.shape v.raw v.t assign d b in
    let e : c + 1 ≡ suc c = omega arith in
    ea ∙ (ap₂ joined es (eh ∙ ap (run_tally v.shape v.raw v.t c) er)
    ∙ (sym (channels_more (channel_span v.shape) c bap) ∙ ap (λ n. tally_channels (channel_span v.shape) n bap) (sym e)))

pub counts-few : (c : ℕ) (so here all : Counts) → AreFew c so → AreFew 1 here → tally all ≡ joined (tally so) (tally here) → AreFew (c + 1) all
counts-few c so here all few more e =
    let l = ap (λ (t : Tally). t.linear) e in
    let a = ap (λ (t : Tally). t.n1) e in
    let b = ap (λ (t : Tally). t.n2) e in
    let d = ap (λ (t : Tally). t.n4) e in
    (omega (arith, l, few.0, more.0), omega (arith, a, few.1, more.1), omega (arith, b, few.2, more.2), omega (arith, d, few.3, more.3))

-- the parts, by the costs of blocks
pub blocks-are : (v : AtOffset) (assign : List (List ℕ)) (n : ℕ) (exponents mantissas : List ℕ) → n ≤ 6 → ((b : ℕ) → b < 6 → slice_index exponents b ≡ exponents_at v.shape assign b) → ((b : ℕ) → b < 6 → slice_index mantissas b ≡ mantissas_at v assign b) → sum_below n (slice_index exponents) + sum_below n (slice_index mantissas) ≡ sum_below n (block_cost v.shape.acmod v.shape.lfe v.shape.bw v.shape.couple assign (pointers v.shape v.raw v.t assign))
blocks-are v assign n exponents mantissas l ee em =
    let x = sum_same-below n (slice_index exponents) (exponents_at v.shape assign) (λ b m. ee b (omega arith)) in
    let y = sum_same-below n (slice_index mantissas) (mantissas_at v assign) (λ b m. em b (omega arith)) in
    let both = sum_both n (exponents_at v.shape assign) (mantissas_at v assign) in
    omega (arith, x, y, both)

-- an assignment's codes alone tell its exponents
pub exponents-same : (shape : Shape) (codes assign : List (List ℕ)) (b : ℕ) → channels shape ≤ 7 → ((c : ℕ) → c < 7 → slice_index_or codes c [] ≡ word_of assign c) → exponents_at shape codes b ≡ exponents_at shape assign b
exponents-same shape codes assign b few same =
    sum_same-below (channels shape) (λ c. exponent_bits (slice_index (word_of codes c) b) (channel_span shape c)) (λ c. exponent_bits (slice_index (word_of assign c) b) (channel_span shape c))
    (λ c l. ap (λ w. exponent_bits (slice_index w b) (channel_span shape c)) (same c (omega arith)))

pub parts-are : (v : AtOffset) (assign : List (List ℕ)) (side : Parts) (a b c d last : ℕ) → side ≡ side_of v.shape.acmod v.shape.lfe v.shape.couple → a + b ≡ sum_below 2 (block_cost v.shape.acmod v.shape.lfe v.shape.bw v.shape.couple assign (pointers v.shape v.raw v.t assign)) → c + d ≡ sum_below 6 (block_cost v.shape.acmod v.shape.lfe v.shape.bw v.shape.couple assign (pointers v.shape v.raw v.t assign)) → last ≡ mantissas_at v assign 5 → record { front = side.front + a + b; total = side.total + c + d; last = last } ≡ parts_at v.shape v.raw v.t assign
parts-are v assign side a b c d last es ef et el =
    let front : side.front + a + b ≡ (parts_at v.shape v.raw v.t assign).front = let s = ap (λ (p : Parts). p.front) es in omega (arith, s, ef) in
    let total : side.total + c + d ≡ (parts_at v.shape v.raw v.t assign).total = let s = ap (λ (p : Parts). p.total) es in omega (arith, s, et) in
    λ i. record { front = front i; total = total i; last = el i }
