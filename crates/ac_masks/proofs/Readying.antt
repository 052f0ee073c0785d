-- A row's bases by what stands of it between the bands.
use Rattle.std.proofs.Common.{set, ◌≡◌, ℕ, suc, ◌+◌, ◌-◌, ◌<◌, ◌≤◌, pos, List, [], slice_index, slice_index_or, length, sym, ap, ◌∙◌, arith, subst, inl, inr}
use Rattle.std.proofs.lemmas.List.{get_or_past}
use Rattle.ac_base.specs.declared.spans.Lead.{Lead}
use Rattle.ac_base.specs.declared.spans.Span.{Span}
use Rattle.ac_base.specs.Allocation.{hth_list, masktab_list}
use Rattle.ac_base.specs.Shape.{IsSpan}
use Rattle.ac_alloc.specs.declared.params.Params.{Params}
use Rattle.ac_alloc.specs.Codes.{fast_gain, slow_gain, fast_decay, slow_decay, fast_start, slow_start, knee}
use Rattle.ac_alloc.specs.Excitation.{excite_by, AreBands}
use Rattle.ac_alloc.specs.Integration.{bndpsd}
use Rattle.ac_alloc.specs.Masking.{masked, first_band}
use Rattle.ac_sixths.specs.Runs.{base_of, column}
use Rattle.ac_alloc.proofs.Lists.{written_more, written_all}
use Rattle.ac_sixths.proofs.Meanings.{column_at}
use Rattle.ac_masks.specs.Bases.{base_by, AreBandBases}
use Rattle.ac_masks.specs.Densities.{band_density, density_in}
use Rattle.ac_masks.specs.Steps.{IsRaised, IsReady, low_before, begin_of, leak_at, leak_before, low_step, leak_step, excite_step, base_step}
use Rattle.ac_masks.proofs.Banding.{densities_same}
use Rattle.ac_masks.proofs.Stepping.{low_after, low_none, raised_start, leak_after, leak_kept, leak_given, leak_none, excite_after, base_is}

pub ready_first : (p : Params) (l : Lead) (P : ℕ → ℕ) (f to low fast slow : ℕ) → AreBands l f to → low ≡ 0 → fast ≡ fast_start p + 4096 → slow ≡ slow_start p + 4096 → IsReady p l P f f low fast slow
ready_first p l P f to low fast slow a el ef es = record {
  low_is = el ∙ sym (low_none l P f to a);
  fast_is = leak_none l (pos (fast_start p)) P (fast_gain p) (fast_decay p) f fast (raised_start (fast_start p) fast ef);
  slow_is = leak_none l (pos (slow_start p)) P (slow_gain p) (slow_decay p) f slow (raised_start (slow_start p) slow es);
}

pub ready_next : (p : Params) (l : Lead) (P : ℕ → ℕ) (f to b z low fast slow next_low next_fast next_slow fg fd sg sd : ℕ) → AreBands l f to → f ≤ b → b < to → z ≡ begin_of l P → fg ≡ fast_gain p → fd ≡ fast_decay p → sg ≡ slow_gain p → sd ≡ slow_decay p → fg ≤ 2000 → sg ≤ 2000 → IsReady p l P f b low fast slow → next_low ≡ low_step l low (P b) (P (b + 1)) b → next_fast ≡ leak_step fast z b (P b) fg fd → next_slow ≡ leak_step slow z b (P b) sg sd → IsReady p l P f (b + 1) next_low next_fast next_slow
ready_next p l P f to b z low fast slow next_low next_fast next_slow fg fd sg sd a m n ez efg efd esg esd few less r el ef es =
    let quick = ef ∙ ap (λ g. leak_step fast z b (P b) g fd) efg ∙ ap (leak_step fast z b (P b) (fast_gain p)) efd in
    let slack = es ∙ ap (λ g. leak_step slow z b (P b) g sd) esg ∙ ap (leak_step slow z b (P b) (slow_gain p)) esd in
    record {
      low_is = low_after l P f to b low next_low a n r.low_is el;
      fast_is = leak_kept l (pos (fast_start p)) P (fast_gain p) (fast_decay p) f b next_fast m (leak_after l (pos (fast_start p)) P (fast_gain p) (fast_decay p) f to b z fast next_fast a m (omega arith) ez r.fast_is quick);
      slow_is = leak_kept l (pos (slow_start p)) P (slow_gain p) (slow_decay p) f b next_slow m (leak_after l (pos (slow_start p)) P (slow_gain p) (slow_decay p) f to b z slow next_slow a m (omega arith) ez r.slow_is slack);
    }

pub base_ready : (p : Params) (l : Lead) (P : ℕ → ℕ) (f to b z low fast slow kn th x : ℕ) → AreBands l f to → f ≤ b → b < to → z ≡ begin_of l P → kn ≡ knee p → th ≡ slice_index (hth_list p.fscod) b → IsReady p l P f (b + 1) low fast slow → x ≡ base_step (excite_step fast slow low z b) (P b) kn th → x ≡ base_by p l f P b
base_ready p l P f to b z low fast slow kn th x a m n ez ek et r ex =
    let ef = leak_given l (pos (fast_start p)) P (fast_gain p) (fast_decay p) f b fast m r.fast_is in
    let es = leak_given l (pos (slow_start p)) P (slow_gain p) (slow_decay p) f b slow m r.slow_is in
    let few : fast_gain p ≤ 2000 = omega (arith, p.fast_gain_code) in
    let e = excite_after p l P f to b z fast slow low a n few ez r.low_is ef es in
    ex ∙ base_is (excite_by l p f P b) (excite_step fast slow low z b) (P b) kn th e
    ∙ ap (λ k. base_of (masked (excite_by l p f P b) k (P b) th)) ek
    ∙ ap (λ h. base_of (masked (excite_by l p f P b) (knee p) (P b) h)) et

pub past_none : (table : List (List ℕ)) (l b : ℕ) → length table ≡ 50 → 50 ≤ b → density_in table l b ≡ 0
past_none table l b long m = ap (λ (row : List ℕ). slice_index row l) (get_or_past table b [] (omega arith))

pub band_bases_are : (p : Params) (s : Span) (levels : List ℕ) (table out : List (List ℕ)) (row from to : ℕ) → IsSpan s → from ≡ slice_index masktab_list s.start → to ≡ slice_index masktab_list (s.end - 1) + 1 → ((k : ℕ) → k < 50 → density_in table row k ≡ band_density s.start s.end levels k) → ((k : ℕ) → 50 ≤ k → density_in table row k ≡ 0) → ((b : ℕ) → from ≤ b → b < to → slice_index (slice_index_or out b []) row ≡ base_by p s.lead from (density_in table row) b) → ((b : ℕ) → slice_index (slice_index_or out b []) row ≤ 2232) → AreBandBases p s levels (column out row)
band_bases_are p s levels table out row from to is ef et within past values bounds = record {
  bound = λ b l. omega (arith, column_at out row b, bounds b);
  value = λ exps of b low high.
      let all : density_in table row ≡ bndpsd s.start s.end exps = λ i j. densities_same s exps levels table row j is within past of i in
      column_at out row b ∙ values b (omega arith) (omega arith)
      ∙ ap (λ k. base_by p s.lead k (density_in table row) b) ef
      ∙ ap (λ (P : ℕ → ℕ). base_by p s.lead (first_band s) P b) all;
}

-- rows of a table before and after a row is written
pub table_values : (V : ℕ → ℕ → ℕ) (table : List (List ℕ)) (new : List ℕ) (from b : ℕ) → b < length table → ((i k : ℕ) → i < 64 → from ≤ k → k < b → slice_index (slice_index_or table k []) i ≡ V i k) → ((i : ℕ) → i < 64 → slice_index new i ≡ V i b) → (i k : ℕ) → i < 64 → from ≤ k → k < b + 1 → slice_index (slice_index_or (set table b new) k []) i ≡ V i k
table_values V table new from b inside before here i k h p q =
    written_more (λ (j : ℕ) (row : List ℕ). slice_index row i ≡ V i j) [] table from b new inside (λ j r s. before i j h r s) (here i h) k p q

pub table_bounds : (m : ℕ) (table : List (List ℕ)) (new : List ℕ) (b : ℕ) → b < length table → ((i k : ℕ) → slice_index (slice_index_or table k []) i ≤ m) → ((i : ℕ) → slice_index new i ≤ m) → (i k : ℕ) → slice_index (slice_index_or (set table b new) k []) i ≤ m
table_bounds m table new b inside before here i k =
    written_all (λ (row : List ℕ). slice_index row i ≤ m) [] table b new inside (λ j. before i j) (here i) k
