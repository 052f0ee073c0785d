-- Sums of pairs of bins.
use Rattle.std.proofs.Common.{◌≡◌, ℕ, ◌+◌, ◌*◌, ◌-◌, ◌/◌, ◌%◌, ◌<◌, ◌≤◌, pos, ◌-ℤ◌, List, slice_index, arith, ap, ap₂, sym, ◌∙◌, inl, inr}
use Rattle.std.proofs.lemmas.Int.{ints}
use Rattle.std.proofs.lemmas.Bool.{cases_lt}
use Rattle.ac_base.specs.Allocation.{masktab_list, bndtab_list}
use Rattle.ac_base.proofs.AllocationTables.{bands_small, band_starts_before, band_ends_after, starts_rise, starts_small}
use Rattle.ac_sixths.specs.Keys.{sixths}
use Rattle.ac_sixths.specs.Runs.{IsSixthTable, entry_at, piece_at, total_from, AreWide}
use Rattle.ac_sixths.specs.Pairs.{pair_sixths, IsPairTable, pair_of, AreNear, ArePairs, pair_at, pair_total}
use Rattle.ac_sixths.proofs.Keyed.{sixths_small}
use Rattle.ac_sixths.proofs.Grouped.{band_is}
use Rattle.ac_sixths.proofs.Widths.{odd_start}
use Rattle.ac_sixths.proofs.Totals.{total_bound, total_parts, total_shifted, total_twos}

pub pair_small : (f : List ℕ) → IsPairTable f → (n : ℕ) → n < 20640 → slice_index f n ≤ 192
pair_small f table n l =
    omega (arith, table n l, sixths_small (pos 3000 -ℤ pos (n % 4128)), sixths_small (pos 3064 -ℤ pos (n % 4128 + 32 * (n / 4128))))

back : (i k d : ℕ) → i + 32 * d ≡ k + 64 → pos 3064 -ℤ pos (i + 32 * d) ≡ pos 3000 -ℤ pos k
back i k d e = omega (arith, ints, e)

-- an entry of the table of pairs is two of the other
pub pair_is : (f two : List ℕ) (base g h t : ℕ) → IsSixthTable f → IsPairTable two → base ≤ 2232 → AreNear g h → t ≤ 1023 → slice_index two (base + 4 * pair_of g h + t) ≡ slice_index f (base + 4 * g + t) + slice_index f (base + 4 * h + t)
pair_is f two base g h t one table b near l =
    let d = (h + 16 - g) / 8 in
    let i = base + 4 * g + t in
    let n = base + 4 * pair_of g h + t in
    let whole : h + 16 - g ≡ 8 * d = omega (arith, near) in
    let few : d ≤ 4 = omega (arith, near) in
    let small : i < 4128 = omega (arith, near) in
    let index : n ≡ 4128 * d + i = omega (arith, whole) in
    let quotient : n / 4128 ≡ d = omega (arith, index, small) in
    let rest : n % 4128 ≡ i = omega (arith, index, small) in
    let here = table n (omega (arith, index, few, small)) in
    let second = ap sixths (back i (base + 4 * h + t) d (omega (arith, whole, near))) in
    let first = one i small in
    let next = one (base + 4 * h + t) (omega (arith, near)) in
    here ∙ ap₂ pair_sixths quotient rest ∙ ap₂ (λ x y. x + y) (sym first) (second ∙ sym next)

-- pieces of two
pub two_small : (f pairs : List ℕ) (base j a n i : ℕ) → base ≤ 3240 → j < 16 → ((i : ℕ) → i < 20640 → slice_index f i ≤ 192) → ((k : ℕ) → a ≤ k → k + 1 < a + n → slice_index pairs k ≤ 4320) → i < n / 2 → piece_at f pairs (base + j) a 2 i ≤ 192
two_small f pairs base j a n i b h small l q =
    let code = l (a + i * 2) (omega arith) (omega arith) in
    small (base + j + 4 * slice_index pairs (a + i * 2)) (omega (arith, code))

pub twos_small : (f pairs : List ℕ) (base j a n i : ℕ) → base ≤ 3240 → j < 16 → ((i : ℕ) → i < 20640 → slice_index f i ≤ 192) → ((k : ℕ) → a ≤ k → k + 1 < a + n → slice_index pairs k ≤ 4320) → i ≤ n / 2 → total_from (piece_at f pairs (base + j) a 2) 0 i ≤ 192 * i
twos_small f pairs base j a n i b h small l q =
    total_bound (piece_at f pairs (base + j) a 2) 192 0 i (λ k o r. two_small f pairs base j a n k b h small l (omega arith))

-- a sum so far
pub pair_total_small : (f pairs bases : List ℕ) (t s e m : ℕ) → ((i : ℕ) → i < 20640 → slice_index f i ≤ 192) → t ≤ 1023 → ((k : ℕ) → s ≤ k → k + 1 < e → slice_index pairs k ≤ 4320) → ((b : ℕ) → b < 50 → slice_index bases b ≤ 2232) → e ≤ 253 → s + m * 2 ≤ e → pair_total f pairs bases t s m ≤ 192 * m
pair_total_small f pairs bases t s e m small h l b most within =
    total_bound (λ (i : ℕ). pair_at f pairs bases t (s + i * 2)) 192 0 m (λ i o r. let k = s + i * 2 in let code = l k (omega arith) (omega arith) in let base = b (slice_index masktab_list k) (omega (arith, bands_small k (omega arith))) in small (slice_index bases (slice_index masktab_list k) + 4 * slice_index pairs k + t) (omega (arith, code, base)))

-- one more band
pub pair_next : (f pairs bases : List ℕ) (n from to b a t j m x y : ℕ) → n ≡ n / 2 * 2 → from ≤ b → b < to → to ≤ 50 → AreWide n from to → a ≡ slice_index bndtab_list b → a ≡ slice_index bndtab_list from + m * 2 → x ≡ pair_total f pairs bases (t + j) (slice_index bndtab_list from) m → y ≡ x + total_from (piece_at f pairs (slice_index bases b + t + j) a 2) 0 (n / 2) → y ≡ pair_total f pairs bases (t + j) (slice_index bndtab_list from) (m + n / 2)
pair_next f pairs bases n from to b a t j m x y even lo hi most wide e count before add =
    let s = slice_index bndtab_list from in
    let Q = λ (i : ℕ). pair_at f pairs bases (t + j) (s + i * 2) in
    let P = piece_at f pairs (slice_index bases b + t + j) a 2 in
    let next = wide b lo hi in
    let each : (i : ℕ) → i < n / 2 → Q (0 + m + i) ≡ P (0 + i) = λ i l.
    let k : s + (0 + m + i) * 2 ≡ a + (0 + i) * 2 = omega (arith, count) in
    let band = ap (slice_index bases) (band_is b (s + (0 + m + i) * 2) (omega arith) (omega arith) (omega (arith, next, k, even))) in
    let code = ap (slice_index pairs) k in
    let index : slice_index bases (slice_index masktab_list (s + (0 + m + i) * 2)) + 4 * slice_index pairs (s + (0 + m + i) * 2) + (t + j) ≡ slice_index bases b + t + j + 4 * slice_index pairs (a + (0 + i) * 2) = omega (arith, band, code) in
    ap (slice_index f) index in
    let rest = total_shifted Q P (0 + m) 0 (n / 2) each in
    omega (arith, before, add, rest, total_parts Q 0 m (n / 2))

-- the bin behind an odd one from bin 49 on is in its band
one_band : (k : ℕ) → 49 ≤ k → k + 1 < 253 → k ≡ k / 2 * 2 + 1 → slice_index masktab_list (k + 1) ≡ slice_index masktab_list k
one_band k lo hi odd =
    let b = slice_index masktab_list k in
    let small = bands_small k (omega arith) in
    let before = band_starts_before k (omega arith) in
    let after = band_ends_after k (omega arith) in
    let late : 35 ≤ b = elim (cases_lt b 35) [
      | inl less ↦ absurd (omega (arith, starts_rise (b + 1) 35 (omega arith) (omega arith)))
      | inr more ↦ more
    ] in
    band_is b (k + 1) (omega arith) (omega arith) (omega (arith, odd_start (b + 1) (omega arith) (omega arith)))

-- sums of pairs are sums of entries
pub pairs_are : (f two levels pairs bases : List ℕ) (t s m : ℕ) → IsSixthTable f → IsPairTable two → ((b : ℕ) → b < 50 → slice_index bases b ≤ 2232) → t ≤ 1023 → (0 < m → (49 ≤ s) × (s ≡ s / 2 * 2 + 1)) → s + m * 2 ≤ 253 → ((k : ℕ) → s ≤ k → k + 1 < s + m * 2 → AreNear (slice_index levels k) (slice_index levels (k + 1)) × (slice_index pairs k ≡ pair_of (slice_index levels k) (slice_index levels (k + 1)))) → pair_total two pairs bases t s m ≡ total_from (entry_at f levels bases t) s (m * 2)
pairs_are f two levels pairs bases t s m one table b h odd most near =
    let F = entry_at f levels bases t in
    let Q = λ (i : ℕ). pair_at two pairs bases t (s + i * 2) in
    total_twos F Q s m (λ i l.
    let k = s + i * 2 in
    let o = odd (omega arith) in
    let n = near k (omega arith) (omega arith) in
    let c = slice_index masktab_list k in
    let small = bands_small k (omega arith) in
    let here = pair_is f two (slice_index bases c) (slice_index levels k) (slice_index levels (k + 1)) t one table (b c (omega arith)) n.0 h in
    let code = ap (λ v. slice_index two (slice_index bases c + 4 * v + t)) n.1 in
    let band = one_band k (omega (arith, o.0)) (omega arith) (omega (arith, o.1)) in
    let next = ap (λ v. slice_index f (slice_index bases v + 4 * slice_index levels (k + 1) + t)) (sym band) in
    code ∙ here ∙ ap (λ v. slice_index f (slice_index bases c + 4 * slice_index levels k + t) + v) next)

-- codes are small
pub codes_small : (start end : ℕ) (levels pairs : List ℕ) → ArePairs start end levels pairs → (k : ℕ) → start ≤ k → k + 1 < end → slice_index pairs k ≤ 4320
codes_small start end levels pairs are k l m = let n = are k l m in omega (arith, n.0, n.1)

-- whole bands from bin 49 on
pub pair_part : (f two levels pairs bases : List ℕ) (t from to : ℕ) → IsSixthTable f → IsPairTable two → ((b : ℕ) → b < 50 → slice_index bases b ≤ 2232) → t ≤ 1023 → from ≤ to → to ≤ 50 → (from < to → 35 ≤ from) → ArePairs (slice_index bndtab_list from) (slice_index bndtab_list to) levels pairs → pair_total two pairs bases t (slice_index bndtab_list from) ((slice_index bndtab_list to - slice_index bndtab_list from) / 2) ≡ total_from (entry_at f levels bases t) (slice_index bndtab_list from) (slice_index bndtab_list to - slice_index bndtab_list from)
pair_part f two levels pairs bases t from to one table b h order most late near =
    let s = slice_index bndtab_list from in
    let e = slice_index bndtab_list to in
    let m = (e - s) / 2 in
    let rise = starts_rise from to order (omega arith) in
    let end = starts_small to (omega arith) in
    elim (cases_lt from to) [
      | inl some ↦ let first = starts_rise 35 from (late some) (omega arith) in let odd = odd_start from (late some) (omega arith) in let other = odd_start to (omega (arith, late some)) most in let even : m * 2 ≡ e - s = omega (arith, odd, other) in pairs_are f two levels pairs bases t s m one table b h (λ _. (omega (arith, first), odd)) (omega (arith, even)) (λ k l q. near k l (omega (arith, even))) ∙ ap (total_from (entry_at f levels bases t) s) even
      | inr none ↦ let same : from ≡ to = omega arith in let at : s ≡ e = ap (slice_index bndtab_list) same in let even : m * 2 ≡ e - s = omega (arith, at) in pairs_are f two levels pairs bases t s m one table b h (λ l. absurd (omega (arith, at))) (omega (arith, even)) (λ k l q. near k l (omega (arith, even))) ∙ ap (total_from (entry_at f levels bases t) s) even
    ]
