-- What is held of the runs of a channel.
use Rattle.std.proofs.Common.{◌≡◌, ℕ, ◌+◌, ◌-◌, ◌/◌, ◌%◌, ◌<◌, ◌≤◌, List, [], slice_index, slice_index_or, refl, sym, ap, ◌∙◌, subst, arith}
use Rattle.std.specs.Prelude.{nat_eq, nat_lt, nat_le, ◌&&◌}
use Rattle.std.proofs.lemmas.Bool.{eqb-true, and_parts, leb-true, ltb-true}
use Rattle.ac_base.specs.declared.shapes.Shape.{Shape}
use Rattle.ac_base.specs.declared.spans.Span.{Span}
use Rattle.ac_base.specs.declared.spans.Lead.{Lead}
use Rattle.ac_base.specs.declared.spans.Lead.TheVariants.{Free, Coupled, Coupling, Low}
use Rattle.ac_base.specs.Allocation.{masktab_list}
use Rattle.ac_base.specs.Shape.{IsSpan}
use Rattle.ac_base.specs.Spans.{IsKind}
use Rattle.ac_base.specs.Words.{IsRun}
use Rattle.ac_base.proofs.AllocationTables.{bands_small}
use Rattle.ac_base.proofs.SpanBounds.{span_end}
use Rattle.ac_base.proofs.Tests.{all_below-at}
use Rattle.ac_expo.specs.Raw.{channels, channel_span}
use Rattle.ac_alloc.specs.declared.params.Params.{Params}
use Rattle.ac_alloc.specs.Codes.{encoder_params}
use Rattle.ac_alloc.specs.Masking.{first_band, last_band}
use Rattle.ac_alloc.proofs.Keyed.{lowest_is_sent}
use Rattle.ac_alloc.proofs.Rising.{masks_are_levels}
use Rattle.ac_alloc.proofs.Spans.{bands_rise}
use Rattle.ac_levels.specs.Rows.{AreRows, AreLevels, ranges_before, row_of as level_row}
use Rattle.ac_cost.specs.Rows.{froms, tos, run_of, rows_of}
use Rattle.ac_cost.specs.Pointers.{run_exps}
use Rattle.ac_cost.proofs.Exponents.{span_of_shape, run_exps_are, greatest}
use Rattle.ac_cost.proofs.Listing.{run_taken}
use Rattle.ac_sixths.specs.Runs.{column, level_of}
use Rattle.ac_sixths.proofs.Steps.{levels_shared}
use Rattle.ac_masks.specs.Bases.{AreBandBases}
use Rattle.ac_windows.specs.Held.{AreLevelsOf, AreBases, IsHeldRow, IsHeld}

-- ---- masks
-- bases by bands are those of bins
pub bases_are : (p : Params) (s : Span) (levels bases : List ℕ) → IsSpan s → AreBandBases p s levels bases → AreBases p s levels bases
bases_are p s levels bases is are = record {
  bound = are.bound;
  value = λ exps of k inside.
      let last = span_end s is in
      let b = slice_index masktab_list k in
      let low : first_band s ≤ b = bands_rise s.start k inside.0 (omega (arith, inside.1)) in
      let high : b ≤ last_band s = bands_rise k (s.end - 1) (omega (arith, inside.1)) (omega (arith, inside.1)) in
      let near : b < 50 = omega (arith, bands_small k (omega (arith, inside.1))) in
      (masks_are_levels p s exps b is near, are.value exps of b low high);
}

-- ---- rows
range_is_run : (i : ℕ) → i < 21 → (slice_index froms i < slice_index tos i) × (slice_index tos i ≤ 6)
range_is_run i l =
    let both = and_parts (nat_lt (slice_index froms i) (slice_index tos i)) (nat_le (slice_index tos i) 6) (all_below-at 21 (λ k. nat_lt (slice_index froms k) (slice_index tos k) && nat_le (slice_index tos k) 6) refl i l) in
    (ltb-true _ _ both.0, leb-true _ _ both.1)

pub row_is_run : (row : ℕ) → row < 63 → IsRun (run_of row)
row_is_run row l =
    let range = range_is_run (row % 21) (omega arith) in
    record { order = range.0; blocks = range.1; some = omega arith; kind = omega arith }

level_row_is : (row : ℕ) → row < 63 → level_row (run_of row).kind (run_of row).from (run_of row).to ≡ row
unfolding ranges_before
level_row_is row l =
    eqb-true _ _ (all_below-at 63 (λ r. nat_eq (level_row (run_of r).kind (run_of r).from (run_of r).to) r) refl row l)

rows_few : (lead : Lead) → rows_of lead ≤ 63
rows_few Free = omega arith
rows_few Coupled = omega arith
rows_few Coupling = omega arith
rows_few Low = omega arith

held_row : (shape : Shape) (raw : List (List (List ℕ))) (c row : ℕ) (levels bases : List ℕ) → c < channels shape → row < rows_of (channel_span shape c).lead → row < 63 → AreLevels (row / 21 + 1) (channel_span shape c) (slice_index_or raw c []) (run_of row).from (run_of row).to levels → AreBases (encoder_params shape.fscod shape.sampling) (channel_span shape c) levels bases → IsHeldRow shape raw c row levels bases
held_row shape raw c row levels bases channel taken few are based =
    let s = channel_span shape c in
    let span = span_of_shape shape c in
    let run = run_of row in
    let exps = run_exps shape raw c run in
    let is = run_taken shape c row channel (row_is_run row few) taken in
    let great = greatest shape raw c run is in
    let of : AreLevelsOf s exps levels = λ k i. (great.spellable.small k i, are k i ∙ ap level_of (sym (run_exps_are shape raw c run k i))) in
    let kind : IsKind (row / 21 + 1) s = (omega arith, is.taken) in
    record {
      small = (λ k p q. omega (arith, (of k (p, q)).1), based.bound, levels_shared (row / 21 + 1) s exps levels span kind great.spellable.constant (λ k p q. (of k (p, q)).1));
      run = (lowest_is_sent shape.fscod shape.sampling, λ k p q. of k (p, q), λ k p q. based.value exps of k (p, q));
    }

pub held_rows : (shape : Shape) (raw : List (List (List ℕ))) (c : ℕ) (s : Span) (p : Params) (rows : ℕ) (levels bases : List (List ℕ)) → c < channels shape → s ≡ channel_span shape c → p ≡ encoder_params shape.fscod shape.sampling → rows ≡ rows_of (channel_span shape c).lead → AreRows s (slice_index_or raw c []) levels → ((row : ℕ) → row < rows → AreBases p s (slice_index_or levels row []) (column bases row)) → IsHeld shape raw c levels bases
held_rows shape raw c s p rows levels bases channel es ep er filled based row l =
    let few : row < 63 = omega (arith, rows_few (channel_span shape c).lead) in
    let run = run_of row in
    let is = row_is_run row few in
    let r = slice_index_or raw c [] in
    let F : Span → Type 0 = λ x. AreRows x r levels in
    let B : Span → Params → Type 0 = λ x q. AreBases q x (slice_index_or levels row []) (column bases row) in
    let all : F (channel_span shape c) = subst F es filled in
    let taken = run_taken shape c row channel is l in
    let at = all run.kind run.from run.to (is.some, taken.taken) is.order is.blocks in
    let are = subst (λ (x : ℕ). AreLevels run.kind (channel_span shape c) r run.from run.to (slice_index_or levels x [])) (level_row_is row few) at in
    let mine : B (channel_span shape c) (encoder_params shape.fscod shape.sampling) = subst (B (channel_span shape c)) ep (subst (λ x. B x p) es (based row (omega (arith, er)))) in
    held_row shape raw c row (slice_index_or levels row []) (column bases row) channel l few are mine
