-- Densities of bands.
use Rattle.std.proofs.Common.{replicate, ◌≡◌, ℕ, zero, suc, ◌+◌, ◌*◌, ◌-◌, ◌<◌, ◌≤◌, Bool, true, false, List, [], slice_index, slice_index_or, refl, sym, ap, ◌∙◌, arith, subst, inl, inr}
use Rattle.std.specs.Prelude.{if◌then◌else◌, nat_lt, ◌&&◌}
use Rattle.std.proofs.lemmas.Bool.{cases_lt, and_parts, ltb-true}
use Rattle.std.proofs.lemmas.Bool.Decides.{nat_tests}
use Rattle.std.proofs.lemmas.List.{get_or_past}
use Rattle.ac_base.specs.declared.spans.Span.{Span}
use Rattle.ac_base.specs.Allocation.{bndtab_list}
use Rattle.ac_base.specs.Shape.{IsSpan}
use Rattle.ac_base.proofs.SpanBounds.{span_end, span_some}
use Rattle.ac_alloc.specs.Integration.{psd, logadd, folded, meets, first_bin, last_bin, bndpsd}
use Rattle.ac_alloc.proofs.Lists.{of_equal}
use Rattle.ac_alloc.proofs.Folds.{folded_more, logadd_bound, bndpsd_past}
use Rattle.ac_masks.specs.Densities.{AreLevelsOf, bin_density, band_density, density_in}

pub sum_small : (sum bin m : ℕ) → sum ≤ m → 4080 ≤ m → bin ≤ 4080 → logadd sum bin ≤ m + 64
sum_small sum bin m l p q = logadd_bound sum bin m l (omega arith)

pub sum_more : (f : ℕ → ℕ) (first k : ℕ) (old new : ℕ) → first + 1 ≤ k → old ≡ folded f first (k - 1 - first) → new ≡ logadd old (f k) → new ≡ folded f first (k + 1 - 1 - first)
sum_more f first k old new l e n =
    let more = folded_more f first (k - 1 - first) k (omega arith) in
    let at : k + 1 - 1 - first ≡ k - 1 - first + 1 = omega arith in
    n ∙ ap (λ x. logadd x (f k)) e ∙ sym more ∙ ap (folded f first) (sym at)

pub sum_first : (f : ℕ → ℕ) (first x : ℕ) → x ≡ f first → x ≡ folded f first (first + 1 - 1 - first)
sum_first f first x e =
    let at : first + 1 - 1 - first ≡ 0 = omega arith in e ∙ ap (folded f first) (sym at)

pub row_at : (levels : List (List ℕ)) (at l first n x : ℕ) → at ≤ l → x ≡ folded (bin_density (slice_index_or levels (at + (l - at)) [])) first n → x ≡ folded (bin_density (slice_index_or levels l [])) first n
row_at levels at l first n x m e =
    let same : at + (l - at) ≡ l = omega arith in e ∙ ap (λ (j : ℕ). folded (bin_density (slice_index_or levels j [])) first n) same

pub band_met : (start end : ℕ) (levels : List ℕ) (b : ℕ) → slice_index bndtab_list b < end → start < slice_index bndtab_list (b + 1) → band_density start end levels b ≡ folded (bin_density levels) (first_bin start b) (last_bin end b - first_bin start b)
band_met start end levels b l m =
    let p : nat_lt (slice_index bndtab_list b) end ≡ true = grind (arith, nat_tests) in
    let q : nat_lt start (slice_index bndtab_list (b + 1)) ≡ true = grind (arith, nat_tests) in
    let w = λ (t : Bool). if t then folded (bin_density levels) (first_bin start b) (last_bin end b - first_bin start b) else 0 in
    ap (λ t. w (t && nat_lt start (slice_index bndtab_list (b + 1)))) p ∙ ap w q

and_false : (a : Bool) → (a && false) ≡ false
and_false true = refl
and_false false = refl

pub band_after : (start end : ℕ) (levels : List ℕ) (b : ℕ) → end ≤ slice_index bndtab_list b → band_density start end levels b ≡ 0
band_after start end levels b l =
    let p : nat_lt (slice_index bndtab_list b) end ≡ false = grind (arith, nat_tests) in
    let w = λ (t : Bool). if t then folded (bin_density levels) (first_bin start b) (last_bin end b - first_bin start b) else 0 in
    ap (λ t. w (t && nat_lt start (slice_index bndtab_list (b + 1)))) p

pub band_before : (start end : ℕ) (levels : List ℕ) (b : ℕ) → slice_index bndtab_list (b + 1) ≤ start → band_density start end levels b ≡ 0
band_before start end levels b l =
    let p : nat_lt start (slice_index bndtab_list (b + 1)) ≡ false = grind (arith, nat_tests) in
    let w = λ (t : Bool). if t then folded (bin_density levels) (first_bin start b) (last_bin end b - first_bin start b) else 0 in
    ap (λ t. w (nat_lt (slice_index bndtab_list b) end && t)) p ∙ ap w (and_false (nat_lt (slice_index bndtab_list b) end))

-- ---- arrays of one value
pub full_at : (x n k : ℕ) → k < n → slice_index (replicate n x) k ≡ x
full_at x zero k l = omega arith
full_at x (suc n) zero l = refl
full_at x (suc n) (suc k) l = full_at x n k (omega arith)

pub zero_at : (n k : ℕ) → slice_index (replicate n 0) k ≡ 0
zero_at n k = of_equal 0 n k

pub zeros_at : (rows n b i : ℕ) → slice_index (slice_index_or (replicate rows (replicate n 0)) b []) i ≡ 0
zeros_at zero n b i = refl
zeros_at (suc rows) n zero i = of_equal 0 n i
zeros_at (suc rows) n (suc b) i = zeros_at rows n b i

-- ---- the densities of exponents with these levels
folded_same : (f g : ℕ → ℕ) (a n : ℕ) → ((j : ℕ) → a ≤ j → j ≤ a + n → f j ≡ g j) → folded f a n ≡ folded g a n
folded_same f g a zero h = h a (omega arith) (omega arith)
folded_same f g a (suc n) h =
    let rest = folded_same f g a n (λ j p q. h j p (omega arith)) in
    let here = h (a + suc n) (omega arith) (omega arith) in
    ap (λ x. logadd x (f (a + suc n))) rest ∙ ap (logadd (folded g a n)) here

where_met : (t : Bool) (x y : ℕ) → (t ≡ true → x ≡ y) → (if t then x else 0) ≡ (if t then y else 0)
where_met true x y h = h refl
where_met false x y h = refl

bin_same : (exp level : ℕ) → exp ≤ 24 → level ≡ 8 * (24 - exp) → 16 * level ≡ 3072 - 128 * exp
bin_same exp level l e = omega arith

band_same : (s : Span) (exps levels : List ℕ) (b : ℕ) → s.start < s.end → AreLevelsOf s exps levels → band_density s.start s.end levels b ≡ bndpsd s.start s.end exps b
band_same s exps levels b some of =
    let a = first_bin s.start b in
    let n = last_bin s.end b - first_bin s.start b in
    where_met (meets s.start s.end b) (folded (bin_density levels) a n) (folded (psd exps) a n) (λ t.
    let both = and_parts (nat_lt (slice_index bndtab_list b) s.end) (nat_lt s.start (slice_index bndtab_list (b + 1))) t in
    let early = ltb-true (slice_index bndtab_list b) s.end both.0 in
    let late = ltb-true s.start (slice_index bndtab_list (b + 1)) both.1 in
    folded_same (bin_density levels) (psd exps) a n (λ j p q. let is = of j (omega arith, omega arith) in bin_same (slice_index exps j) (slice_index levels j) is.0 is.1))

-- a table with a row's densities has those of whatever exponents have its levels
pub densities_same : (s : Span) (exps levels : List ℕ) (table : List (List ℕ)) (l b : ℕ) → IsSpan s → ((k : ℕ) → k < 50 → density_in table l k ≡ band_density s.start s.end levels k) → ((k : ℕ) → 50 ≤ k → density_in table l k ≡ 0) → AreLevelsOf s exps levels → density_in table l b ≡ bndpsd s.start s.end exps b
densities_same s exps levels table l b is within past of =
    elim (cases_lt b 50) [
      | inl m ↦ within b m ∙ band_same s exps levels b (span_some s is) of
      | inr m ↦ past b m ∙ sym (bndpsd_past s.start s.end exps b (span_end s is) m)
    ]
