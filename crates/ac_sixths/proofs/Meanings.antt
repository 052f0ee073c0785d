-- Sums of entries are sums of what bins cost.
use Rattle.std.proofs.Common.{◌≡◌, ◌≢◌, ℕ, ◌+◌, ◌*◌, ◌-◌, ◌/◌, ◌<◌, ◌≤◌, ℤ, List, [], length, slice_index, slice_index_or, slice_set, get_or-set_same, get_or-set_other, arith, ap, sym, ◌∙◌, inl, inr}
use Rattle.std.specs.Prelude.{◌==◌}
use Rattle.std.proofs.lemmas.Nat.{mul-le}
use Rattle.std.proofs.lemmas.Bool.{eq-eqb, ne_eqb, cond-true, cond-false, cases_eq}
use Rattle.ac_base.specs.Allocation.{masktab_list}
use Rattle.ac_base.specs.declared.spans.Span.{Span}
use Rattle.ac_base.specs.Shape.{IsSpan}
use Rattle.ac_base.proofs.AllocationTables.{bands_small}
use Rattle.ac_base.proofs.SpanBounds.{span_some}
use Rattle.ac_alloc.specs.declared.params.Params.{Params}
use Rattle.ac_alloc.specs.Masking.{IsLevel, mask}
use Rattle.ac_alloc.specs.Integration.{psd}
use Rattle.ac_alloc.specs.Pointers.{bap, bap_at}
use Rattle.ac_alloc.specs.Keys.{lowest}
use Rattle.ac_sixths.specs.Keys.{weight, sixths}
use Rattle.std.proofs.Math.ListN.{get_or-map}
use Rattle.ac_sixths.specs.Runs.{column, IsSixthTable, IsRun, entry_at, piece_at, base_of, level_of, total_from, total_over, span_sixths}
use Rattle.ac_sixths.proofs.Keyed.{baps_are_by_key, index_is}
use Rattle.ac_sixths.proofs.Totals.{total_bound, total_same}

one_entry : (f : List ℕ) → IsSixthTable f → (m : ℤ) (exponent t base level : ℕ) → IsLevel m → exponent ≤ 24 → t ≤ 1023 → base ≡ base_of m → level ≡ level_of exponent → slice_index f (base + 4 * level + t) ≡ weight (bap m lowest (3072 - 128 * exponent) t)
one_entry f table m exponent t base level is l h eb el =
    let i = index_is m exponent t base level is l h eb el in
    table (base + 4 * level + t) i.0 ∙ ap sixths i.1 ∙ ap weight (sym (baps_are_by_key m exponent t is l))

-- an entry is what the bin costs
pub entry_is : (f : List ℕ) (p : Params) (s : Span) (exps levels bases : List ℕ) (t k : ℕ) → IsSixthTable f → IsRun p s exps levels bases → t ≤ 1023 → s.start ≤ k → k < s.end → entry_at f levels bases t k ≡ weight (bap_at p s exps k t)
entry_is f p s exps levels bases t k table run h l m =
    let b = slice_index masktab_list k in
    let e = run.1 k l m in
    let q = run.2 k l m in
    one_entry f table (mask p s exps b) (slice_index exps k) t (slice_index bases b) (slice_index levels k) q.0 e.0 h q.1 e.1 ∙ ap (λ v. weight (bap (mask p s exps b) v (psd exps k) t)) (sym run.0)

-- at an offset other than 0
pub sums_are : (f : List ℕ) (p : Params) (s : Span) (exps levels bases : List ℕ) (t : ℕ) → IsSpan s → IsSixthTable f → IsRun p s exps levels bases → t ≤ 1023 → t ≢ 0 → total_from (entry_at f levels bases t) s.start (s.end - s.start) ≡ span_sixths p s exps t
sums_are f p s exps levels bases t span table run h some =
    let g = λ (k : ℕ). weight (bap_at p s exps k t) in
    let last = span_some s span in
    total_same (entry_at f levels bases t) g s.start (s.end - s.start) (λ k l m. entry_is f p s exps levels bases t k table run h l (omega arith)) ∙ sym (cond-false (t == 0) 0 (total_over s g) (ne_eqb t 0 some))

-- at 0
pub none_at : (p : Params) (s : Span) (exps : List ℕ) (t : ℕ) → t ≡ 0 → span_sixths p s exps t ≡ 0
none_at p s exps t e = cond-true (t == 0) 0 (total_over s (λ k. weight (bap_at p s exps k t))) (eq-eqb t 0 e)

-- an entry within the table
pub entry_small : (f levels bases : List ℕ) (t k : ℕ) → ((i : ℕ) → i < 4128 → slice_index f i ≤ 96) → t ≤ 1023 → slice_index levels k ≤ 192 → slice_index bases (slice_index masktab_list k) ≤ 2232 → entry_at f levels bases t k ≤ 96
entry_small f levels bases t k small h l b =
    small (slice_index bases (slice_index masktab_list k) + 4 * slice_index levels k + t) (omega arith)

-- sums so far are small
pub sums_small : (f levels bases : List ℕ) (t start end n : ℕ) → ((i : ℕ) → i < 4128 → slice_index f i ≤ 96) → t ≤ 1023 → ((k : ℕ) → start ≤ k → k < end → slice_index levels k ≤ 192) → ((b : ℕ) → b < 50 → slice_index bases b ≤ 2232) → end ≤ 253 → start + n ≤ end → total_from (entry_at f levels bases t) start n ≤ 96 * n
sums_small f levels bases t start end n small h l b most within =
    total_bound (entry_at f levels bases t) 96 start n (λ k p q. entry_small f levels bases t k small h (l k p (omega arith)) (b (slice_index masktab_list k) (omega (arith, bands_small k (omega arith)))))

-- what the program reads
pub entry_read : (f levels bases : List ℕ) (t j k b : ℕ) → b ≡ slice_index masktab_list k → slice_index f (slice_index bases b + 4 * slice_index levels k + t + j) ≡ entry_at f levels bases (t + j) k
entry_read f levels bases t j k b e =
    let same = ap (slice_index bases) e in
    let index : slice_index bases b + 4 * slice_index levels k + t + j ≡ slice_index bases (slice_index masktab_list k) + 4 * slice_index levels k + (t + j) = omega (arith, same) in
    ap (slice_index f) index

-- the first of a list set to 0, which stands for offset 0
pub cleared : (xs : List ℕ) (t j : ℕ) (g : ℕ → ℕ) → 0 < length xs → t ≡ 0 → (t + j ≡ 0 → g (t + j) ≡ 0) → (t + j ≢ 0 → slice_index xs j ≡ g (t + j)) → slice_index (slice_set xs 0 0) j ≡ g (t + j)
cleared xs t j g long zero none some = elim (cases_eq j 0) [
  | inl e ↦ ap (slice_index (slice_set xs 0 0)) e ∙ get_or-set_same xs 0 0 0 long ∙ sym (none (omega arith))
  | inr n ↦ let ne : j ≢ 0 = n in get_or-set_other xs 0 j 0 0 ne ∙ some (omega arith)
]

-- an entry of a piece
pub piece_read : (f levels : List ℕ) (base j a m i : ℕ) → slice_index f (base + 4 * slice_index levels (a + i * m) + j) ≡ piece_at f levels (base + j) a m i
piece_read f levels base j a m i =
    let index : base + 4 * slice_index levels (a + i * m) + j ≡ base + j + 4 * slice_index levels (a + i * m) = omega arith in ap (slice_index f) index

-- the pieces of n bins are within them
pub piece_in : (i n m : ℕ) → 0 < m → i < n / m → (i * m + m ≤ n) × (i + 1 ≤ n)
piece_in i n m some l =
    let a = mul-le (i + 1) m (n / m) m (omega arith) (omega arith) in
    let b = mul-le (i + 1) 1 (i + 1) m (omega arith) some in
    (omega (arith, a), omega (arith, a, b))

pub piece_small : (f levels : List ℕ) (base j a n m i : ℕ) → 0 < m → base ≤ 3255 → j < 16 → ((i : ℕ) → i < 4128 → slice_index f i ≤ 96) → ((k : ℕ) → a ≤ k → k < a + n → slice_index levels k ≤ 192) → i < n / m → piece_at f levels (base + j) a m i ≤ 96
piece_small f levels base j a n m i some b h small l q =
    let within = piece_in i n m some q in
    let level = l (a + i * m) (omega arith) (omega (arith, within.0)) in
    small (base + j + 4 * slice_index levels (a + i * m)) (omega (arith, level))

pub pieces_small : (f levels : List ℕ) (base j a n m i : ℕ) → 0 < m → base ≤ 3255 → j < 16 → ((i : ℕ) → i < 4128 → slice_index f i ≤ 96) → ((k : ℕ) → a ≤ k → k < a + n → slice_index levels k ≤ 192) → i ≤ n / m → total_from (piece_at f levels (base + j) a m) 0 i ≤ 96 * i
pieces_small f levels base j a n m i some b h small l q =
    total_bound (piece_at f levels (base + j) a m) 96 0 i (λ k o r. piece_small f levels base j a n m k some b h small l (omega arith))

-- an entry of a column
pub column_at : (rows : List (List ℕ)) (i b : ℕ) → slice_index (column rows i) b ≡ slice_index (slice_index_or rows b []) i
column_at rows i b = get_or-map (λ (row : List ℕ). slice_index row i) rows b []
