-- What is held of the runs of a channel.
use Rattle.std.proofs.Common.{◌≡◌, ℕ, ◌+◌, ◌-◌, ◌*◌, ◌/◌, ◌%◌, ◌<◌, ◌≤◌, pos, Bool, true, List, [], length, slice_index, slice_index_or, set, get_or-set_same, get_or-set_other, refl, sym, ap, ◌∙◌, inl, inr, subst, arith}
use Rattle.std.specs.Prelude.{nat_eq, nat_lt, ◌&&◌, if◌then◌else◌}
use Rattle.std.proofs.Common.{replicate}
use Rattle.std.proofs.lemmas.Bool.{cases_eq, cases_lt, eqb-true, and_parts, lt-ltb, ltb-true}
use Rattle.ac_base.specs.declared.runs.Run.{Run}
use Rattle.ac_base.specs.declared.shapes.Shape.{Shape}
use Rattle.ac_base.specs.declared.spans.Span.{Span}
use Rattle.ac_base.specs.Spans.{IsIn}
use Rattle.ac_base.specs.Words.{IsRun}
use Rattle.ac_base.proofs.Tests.{all_below, all_below-at}
use Rattle.ac_expo.specs.Raw.{channels, channel_span}
use Rattle.ac_expo.specs.Greatest.{IsByFormula}
use Rattle.ac_expo.proofs.Minima.{small_start}
use Rattle.ac_alloc.specs.declared.mask.Mask.{Mask}
use Rattle.ac_alloc.specs.declared.params.Params.{Params}
use Rattle.ac_alloc.specs.Codes.{encoder_params, floor_of}
use Rattle.ac_base.specs.Allocation.{bins}
use Rattle.ac_alloc.specs.Integration.{AreExponents}
use Rattle.ac_alloc.specs.Masking.{mask, first_band, last_band}
use Rattle.ac_cost.specs.Runs.{IsRunOf}
use Rattle.ac_cost.specs.Rows.{froms, tos, firsts, run_of, row_of, rows_of}
use Rattle.ac_cost.specs.Lists.{IsListed, AreListed, not_listed}
use Rattle.ac_cost.specs.declared.listed.Listed.{Listed}
use Rattle.ac_cost.proofs.Exponents.{run_exps_are}

pub listed_is : (shape : Shape) (raw : List (List (List ℕ))) (c : ℕ) (run : Run) (span : Span) (p : Params) (exps : List ℕ) (m : Mask) → span ≡ channel_span shape c → p ≡ encoder_params shape.fscod shape.sampling → IsByFormula run.kind span (slice_index_or raw c []) run.from run.to exps → ((b : ℕ) → first_band span ≤ b → b ≤ last_band span → slice_index_or m.m b (pos 0) ≡ mask p span exps b) → m.floor ≡ floor_of p → IsListed shape raw c run (record { exps = exps; mask = m })
listed_is shape raw c run span p exps m es ep formula masks floor =
    let F : Span → Type 0 = λ s. IsByFormula run.kind s (slice_index_or raw c []) run.from run.to exps in
    let M : Span → Params → Type 0 = λ s q. (b : ℕ) → first_band s ≤ b → b ≤ last_band s → slice_index_or m.m b (pos 0) ≡ mask q s exps b in
    let f : F (channel_span shape c) = subst F es formula in
    record {
      exps = λ k i. f k i ∙ sym (run_exps_are shape raw c run k i);
      masks = subst (λ q. M (channel_span shape c) q) ep (subst (λ s. M s p) es masks);
      floor = floor ∙ ap floor_of ep;
    }

-- exponents written over 24
pub small_exps : (span : Span) (exps : List ℕ) → ((k : ℕ) → IsIn span k → slice_index exps k ≤ 24) → ((k : ℕ) → (IsIn span k → ⊥) → slice_index exps k ≡ slice_index (replicate 256 24) k) → (k : ℕ) → slice_index exps k ≤ 24
small_exps span exps inside rest k =
    elim (cases_lt k span.start) [
      | inl before ↦ let e = rest k (λ i. absurd (omega (arith, i.0))) in omega (arith, e, small_start k)
      | inr from ↦
          elim (cases_lt k span.end) [
            | inl to ↦ inside k (from, to)
            | inr behind ↦ let e = rest k (λ i. absurd (omega (arith, i.1))) in omega (arith, e, small_start k)
          ]
    ]

-- ---- rows
-- a range of blocks comes back
abbrev ranges : ℕ → ℕ → Bool
ranges from to =
    if nat_lt from to then nat_eq (slice_index froms (slice_index firsts from + (to - from - 1))) from && nat_eq (slice_index tos (slice_index firsts from + (to - from - 1))) to && nat_lt (slice_index firsts from + (to - from - 1)) 21 else true

range_back : (from to : ℕ) → from < to → to ≤ 6 → (slice_index froms (slice_index firsts from + (to - from - 1)) ≡ from) × (slice_index tos (slice_index firsts from + (to - from - 1)) ≡ to) × (slice_index firsts from + (to - from - 1) < 21)
range_back from to l m =
    let x = slice_index firsts from + (to - from - 1) in
    let one = all_below-at 6 (λ f. all_below 7 (ranges f)) refl from (omega arith) in
    let two : ranges from to ≡ true = all_below-at 7 (ranges from) one to (omega arith) in
    let less : nat_lt from to ≡ true = lt-ltb _ _ l in
    let there : (nat_eq (slice_index froms x) from && nat_eq (slice_index tos x) to && nat_lt x 21) ≡ true = sym (ap (λ t. if t then nat_eq (slice_index froms x) from && nat_eq (slice_index tos x) to && nat_lt x 21 else true) less) ∙ two in
    let outer = and_parts (nat_eq (slice_index froms x) from && nat_eq (slice_index tos x) to) (nat_lt x 21) there in
    let inner = and_parts (nat_eq (slice_index froms x) from) (nat_eq (slice_index tos x) to) outer.0 in
    (eqb-true _ _ inner.0, eqb-true _ _ inner.1, ltb-true _ _ outer.1)

pub run_back : (run : Run) → IsRun run → run_of (row_of run) ≡ run
run_back run is =
    let x = slice_index firsts run.from + (run.to - run.from - 1) in
    let r = range_back run.from run.to is.order is.blocks in
    let row : row_of run ≡ 21 * (run.kind - 1) + x = omega arith in
    let rest : row_of run % 21 ≡ x = omega (arith, row, r.2) in
    let whole : row_of run / 21 + 1 ≡ run.kind = omega (arith, row, r.2, is.some) in
    let from : slice_index froms (row_of run % 21) ≡ run.from = ap (slice_index froms) rest ∙ r.0 in
    let to : slice_index tos (row_of run % 21) ≡ run.to = ap (slice_index tos) rest ∙ r.1 in
    λ i. record { from = from i; to = to i; kind = whole i }

pub row_below : (shape : Shape) (c : ℕ) (run : Run) → IsRunOf shape c run → row_of run < rows_of (channel_span shape c).lead
row_below shape c run is =
    let r = range_back run.from run.to is.is_run.order is.is_run.blocks in
    omega (arith, r.2, is.taken, is.is_run.some)

-- the runs of rows are those of the channel
pub run_taken : (shape : Shape) (c row : ℕ) → c < channels shape → IsRun (run_of row) → row < rows_of (channel_span shape c).lead → IsRunOf shape c (run_of row)
run_taken shape c row l is m = record { channel = l; is_run = is; taken = omega arith }

-- ---- places of lists
pub set_each : {X : Type 0} (P : ℕ → X → Type 0) (xs : List X) (i : ℕ) (v d : X) → i < length xs → ((j : ℕ) → (j ≡ i → ⊥) → P j (slice_index_or xs j d)) → P i v → (j : ℕ) → P j (slice_index_or (set xs i v) j d)
set_each P xs i v d l all new j =
    elim (cases_eq j i) [
      | inl e ↦ subst (λ k. P k (slice_index_or (set xs i v) k d)) (sym e) (subst (P i) (sym (get_or-set_same xs i v d l)) new)
      | inr other ↦ subst (P j) (sym (get_or-set_other xs i j v d other)) (all j other)
    ]

pub set_more : {X : Type 0} (P : ℕ → X → Type 0) (xs : List X) (i : ℕ) (v d : X) → i < length xs → ((j : ℕ) → j < i → P j (slice_index_or xs j d)) → P i v → (j : ℕ) → j < i + 1 → P j (slice_index_or (set xs i v) j d)
set_more P xs i v d l all new j m =
    elim (cases_eq j i) [
      | inl e ↦ subst (λ k. P k (slice_index_or (set xs i v) k d)) (sym e) (subst (P i) (sym (get_or-set_same xs i v d l)) new)
      | inr other ↦ subst (P j) (sym (get_or-set_other xs i j v d other)) (all j (omega arith))
    ]

pub listed_all : (shape : Shape) (raw : List (List (List ℕ))) (c count : ℕ) (rows : List Listed) → count ≡ rows_of (channel_span shape c).lead → ((row : ℕ) → row < count → IsListed shape raw c (run_of row) (slice_index_or rows row not_listed)) → ((row : ℕ) → row < count → AreExponents 0 bins (slice_index_or rows row not_listed).exps) → AreListed shape raw c rows
listed_all shape raw c count rows e done small = record {
  lists = λ run is.
      let below = row_below shape c run is in
      subst (λ r. IsListed shape raw c r (slice_index_or rows (row_of run) not_listed)) (run_back run is.is_run) (done (row_of run) (omega (arith, e)));
  small = λ row l. small row (omega (arith, e, l));
}
