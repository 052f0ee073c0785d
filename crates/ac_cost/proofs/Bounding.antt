-- The sixths of an assignment are within six times its parts.
use Rattle.std.proofs.Common.{◌≡◌, ◌≢◌, ℕ, zero, suc, ◌+◌, ◌*◌, ◌<◌, ◌≤◌, true, false, List, [], ◌∷◌, refl, sym, ap, ◌∙◌, inl, inr, subst, arith}
use Rattle.std.specs.Prelude.{◌==◌, nat_lt}
use Rattle.std.proofs.lemmas.Bool.{cases_eq, ne_eqb, lt-ltb}
use Rattle.ac_base.specs.declared.runs.Run.{Run}
use Rattle.ac_base.specs.declared.shapes.Shape.{Shape}
use Rattle.ac_base.specs.declared.spans.Span.{Span}
use Rattle.ac_base.specs.Counts.{Tally, none, joined, sixths_of}
use Rattle.ac_base.specs.Fit.{tally_channels, tally_span, mantissas_in, run_bits}
use Rattle.ac_base.specs.Sigma.{sum_below}
use Rattle.ac_base.specs.Words.{Tile, runs_of, word_of}
use Rattle.ac_base.proofs.ByRuns.{sum_more, sum_none, sum_both, sum_swap, parts_by_runs}
use Rattle.ac_base.proofs.Stretches.{tile}
use Rattle.ac_base.proofs.Tallies.{sixths_within}
use Rattle.ac_expo.specs.Raw.{channels, channel_span}
use Rattle.ac_cost.specs.Runs.{IsAssignmentOf, run_with}
use Rattle.ac_cost.specs.Pointers.{run_tally, pointers}
use Rattle.ac_cost.specs.Parts.{parts_at}
use Rattle.ac_cost.specs.Sixths.{part_of, in_part, runs_sixths, assign_sixths}
use Rattle.ac_cost.specs.Laws.{SixthsAreWithinParts}
use Rattle.ac_cost.proofs.Covering.{total, at, one-at, by-blocks, sum_same-below}

pub channels_none : (span : ℕ → Span) (bap : ℕ → ℕ → ℕ) → tally_channels span 0 bap ≡ none
unfolding tally_channels
channels_none span bap = refl

pub channels_more : (span : ℕ → Span) (n : ℕ) (bap : ℕ → ℕ → ℕ) → tally_channels span (suc n) bap ≡ joined (tally_channels span n bap) (tally_span (bap n) (span n))
unfolding tally_channels
channels_more span n bap = refl

joined-sixths : (s t : Tally) → sixths_of (joined s t) ≡ sixths_of s + sixths_of t
joined-sixths s t = omega arith

-- the sixths of some channels are those of each
channels-sixths : (span : ℕ → Span) (n : ℕ) (bap : ℕ → ℕ → ℕ) → sixths_of (tally_channels span n bap) ≡ sum_below n (λ c. sixths_of (tally_span (bap c) (span c)))
channels-sixths span zero bap = ap sixths_of (channels_none span bap) ∙ sym (sum_none (λ c. sixths_of (tally_span (bap c) (span c))))
channels-sixths span (suc n) bap =
    ap sixths_of (channels_more span n bap)
    ∙ (joined-sixths (tally_channels span n bap) (tally_span (bap n) (span n))
    ∙ (ap (λ x. x + sixths_of (tally_span (bap n) (span n))) (channels-sixths span n bap) ∙ sym (sum_more n (λ c. sixths_of (tally_span (bap c) (span c))))))

tile-le : (from to : ℕ) (rs : List Run) → Tile from to rs → from ≤ to
tile-le from to [] tiled = omega (arith, tiled)
tile-le from to (run ∷ rs) tiled = omega (arith, tiled.0, tiled.1, tile-le run.to to rs tiled.2)

six_times : (n : ℕ) (f : ℕ → ℕ) → sum_below n (λ c. 6 * f c) ≡ 6 * sum_below n f
six_times zero f = omega (arith, sum_none f, sum_none (λ c. 6 * f c))
six_times (suc n) f = omega (arith, sum_more n f, sum_more n (λ c. 6 * f c), six_times n f)

module _ (shape : Shape) (raw : List (List (List ℕ))) (t : ℕ) (assign : List (List ℕ)) (is : IsAssignmentOf shape assign) where
  abbrev runs : ℕ → List Run
  runs c = runs_of (word_of assign c)

  abbrev of_run : ℕ → Run → ℕ
  of_run c run = sixths_of (run_tally shape raw t c run)

  abbrev exact : ℕ → ℕ
  exact b = mantissas_in (channel_span shape) (channels shape) (pointers shape raw t assign) b

  -- block b: of all channels
  block-within : (b : ℕ) → b < 6 → sum_below (channels shape) (λ c. at (of_run c) b (runs c)) ≤ 6 * exact b
  block-within b l =
      let bap : ℕ → ℕ → ℕ = λ c. pointers shape raw t assign c b in
      let each = sum_same-below (channels shape) (λ c. at (of_run c) b (runs c)) (λ c. of_run c (run_with (runs c) b))
      (λ c m. one-at (of_run c) (runs c) 0 6 b (tile (word_of assign c) (is.words c m)) (omega arith) l) in
      let all : sixths_of (tally_channels (channel_span shape) (channels shape) bap) ≡ sum_below (channels shape) (λ c. of_run c (run_with (runs c) b)) =
      channels-sixths (channel_span shape) (channels shape) bap in
      let less = sixths_within (tally_channels (channel_span shape) (channels shape) bap) in
      omega (arith, each, all, less)

  blocks-within : (n : ℕ) → n ≤ 6 → sum_below n (λ b. sum_below (channels shape) (λ c. at (of_run c) b (runs c))) ≤ 6 * sum_below n exact
  blocks-within zero l = omega (arith, sum_none (λ b. sum_below (channels shape) (λ c. at (of_run c) b (runs c))), sum_none exact)
  blocks-within (suc n) l =
      omega (arith, sum_more n (λ b. sum_below (channels shape) (λ c. at (of_run c) b (runs c))), sum_more n exact, blocks-within n (omega arith), block-within n (omega arith))

  -- ---- the front
  front-runs : (c : ℕ) (rs : List Run) → runs_sixths shape raw t 0 c rs ≡ 6 * run_bits (channel_span shape c) 2 rs + total (λ run. in_part 0 run (of_run c run)) rs
  front-runs c [] = refl
  front-runs c (run ∷ rs) = omega (arith, front-runs c rs)

  total-runs : (c from to : ℕ) (rs : List Run) → Tile from to rs → to ≤ 6 → runs_sixths shape raw t 1 c rs ≡ 6 * run_bits (channel_span shape c) 6 rs + total (λ run. in_part 1 run (of_run c run)) rs
  total-runs c from to [] tiled l = refl
  total-runs c from to (run ∷ rs) tiled l =
      let before = tile-le run.to to rs tiled.2 in
      let early : nat_lt run.from 6 ≡ true = lt-ltb _ _ (omega (arith, tiled.0, tiled.1, before)) in
      rw early (omega (arith, total-runs c run.to to rs tiled.2 l))

  -- ---- the mantissas of block 5
  last-runs : (part c : ℕ) (rs : List Run) → part ≢ 0 → part ≢ 1 → runs_sixths shape raw t part c rs ≡ at (of_run c) 5 rs
  last-runs part c [] off also = refl
  last-runs part c (run ∷ rs) off also =
      let e : (part == 0) ≡ false = ne_eqb part 0 off in
      let f : (part == 1) ≡ false = ne_eqb part 1 also in
      let rest = last-runs part c rs off also in
      rw (e, f) (omega (arith, rest))

  -- ---- all channels
  channels-within : (n : ℕ) (bits sixths : ℕ → ℕ) → n ≤ 6 → ((c : ℕ) → c < channels shape → sixths c ≡ 6 * bits c + sum_below n (λ b. at (of_run c) b (runs c))) → sum_below (channels shape) sixths ≤ 6 * sum_below (channels shape) bits + 6 * sum_below n exact
  channels-within n bits sixths l each =
      let blocks : ℕ → ℕ = λ c. sum_below n (λ b. at (of_run c) b (runs c)) in
      let same = sum_same-below (channels shape) sixths (λ c. 6 * bits c + blocks c) each in
      let split = sum_both (channels shape) (λ c. 6 * bits c) blocks in
      let six = six_times (channels shape) bits in
      let swap = sum_swap (channels shape) n (λ c b. at (of_run c) b (runs c)) in
      let less = blocks-within n l in
      omega (arith, same, split, six, swap, less)

  front-within : assign_sixths shape raw t 0 assign ≤ 6 * part_of (parts_at shape raw t assign) 0
  front-within =
      let each = channels-within 2 (λ c. run_bits (channel_span shape c) 2 (runs c)) (λ c. runs_sixths shape raw t 0 c (runs c)) (omega arith)
      (λ c m. front-runs c (runs c) ∙ ap (λ x. 6 * run_bits (channel_span shape c) 2 (runs c) + x) (by-blocks (of_run c) 2 (runs c))) in
      let parts = parts_by_runs shape.acmod shape.lfe shape.bw shape.couple assign (pointers shape raw t assign) in
      omega (arith, each, parts.0)

  total-within : assign_sixths shape raw t 1 assign ≤ 6 * part_of (parts_at shape raw t assign) 1
  total-within =
      let each = channels-within 6 (λ c. run_bits (channel_span shape c) 6 (runs c)) (λ c. runs_sixths shape raw t 1 c (runs c)) (omega arith)
      (λ c m. total-runs c 0 6 (runs c) (tile (word_of assign c) (is.words c m)) (omega arith) ∙ ap (λ x. 6 * run_bits (channel_span shape c) 6 (runs c) + x) (by-blocks (of_run c) 6 (runs c))) in
      let parts = parts_by_runs shape.acmod shape.lfe shape.bw shape.couple assign (pointers shape raw t assign) in
      omega (arith, each, parts.1)

  last-within : (part : ℕ) → part ≢ 0 → part ≢ 1 → assign_sixths shape raw t part assign ≤ 6 * part_of (parts_at shape raw t assign) part
  last-within part off also =
      let e : (part == 0) ≡ false = ne_eqb part 0 off in
      let f : (part == 1) ≡ false = ne_eqb part 1 also in
      let same = sum_same-below (channels shape) (λ c. runs_sixths shape raw t part c (runs c)) (λ c. at (of_run c) 5 (runs c)) (λ c m. last-runs part c (runs c) off also) in
      let less = block-within 5 (omega arith) in
      rw (e, f) (omega (arith, same, less))

pub within : SixthsAreWithinParts
within shape raw t part assign is =
    let P : ℕ → Type 0 = λ p. assign_sixths shape raw t p assign ≤ 6 * part_of (parts_at shape raw t assign) p in
    elim (cases_eq part 0) [
      | inl front ↦ subst P (sym front) (front-within shape raw t assign is)
      | inr off ↦
          elim (cases_eq part 1) [
            | inl whole ↦ subst P (sym whole) (total-within shape raw t assign is)
            | inr also ↦ last-within shape raw t assign is part off also
          ]
    ]
