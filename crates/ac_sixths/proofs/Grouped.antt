-- Sums over whole bands of one width, in pieces of bins with one level.
use Rattle.std.proofs.Common.{◌≡◌, ℕ, ◌+◌, ◌*◌, ◌-◌, ◌/◌, ◌^◌, ◌<◌, ◌≤◌, List, slice_index, arith, ap, sym, ◌∙◌, inl, inr}
use Rattle.std.proofs.lemmas.Bool.{cases_order}
use Rattle.std.proofs.lemmas.Nat.{mul-le}
use Rattle.ac_base.specs.Allocation.{masktab_list, bndtab_list}
use Rattle.ac_base.proofs.AllocationTables.{bands_small, band_starts_before, band_ends_after, starts_small, starts_rise}
use Rattle.ac_sixths.specs.Runs.{entry_at, piece_at, total_from, AreWide, ArePieces}
use Rattle.ac_sixths.proofs.Meanings.{piece_in, sums_small}
use Rattle.ac_sixths.proofs.Totals.{total_none, total_joined, total_parts, total_pieces}

-- the bins between two starts are the band's
pub band_is : (b k : ℕ) → b < 50 → slice_index bndtab_list b ≤ k → k < slice_index bndtab_list (b + 1) → slice_index masktab_list k ≡ b
band_is b k l lo hi =
    let c = slice_index masktab_list k in
    let end = starts_small (b + 1) (omega arith) in
    let small = bands_small k (omega arith) in
    let before = band_starts_before k (omega arith) in
    let after = band_ends_after k (omega arith) in
    elim (cases_order c b) [
      | inl e ↦ e
      | inr o ↦ elim o [
        | inl less ↦ absurd (omega (arith, starts_rise (c + 1) b (omega arith) (omega arith)))
        | inr more ↦ absurd (omega (arith, starts_rise (b + 1) c (omega arith) (omega arith)))
      ]
    ]

-- each entry of a piece is that of its first bin
pub piece_is : (f levels bases : List ℕ) (m n from to b a t j i k : ℕ) → from ≤ b → b < to → to ≤ 50 → AreWide n from to → ArePieces m from to levels → a ≡ slice_index bndtab_list b → i * m + m ≤ n → k < m → entry_at f levels bases (t + j) (a + i * m + k) ≡ piece_at f levels (slice_index bases b + t + j) a m i
piece_is f levels bases m n from to b a t j i k lo hi most wide pieces e within l =
    let s = slice_index bndtab_list b in
    let next = wide b lo hi in
    let band = ap (slice_index bases) (band_is b (a + i * m + k) (omega arith) (omega arith) (omega (arith, next))) in
    let here = ap (λ v. slice_index levels (v + i * m + k)) e in
    let first = ap (λ v. slice_index levels (v + i * m)) e in
    let same = pieces b i k lo hi l (omega (arith, next)) in
    let index : slice_index bases (slice_index masktab_list (a + i * m + k)) + 4 * slice_index levels (a + i * m + k) + (t + j) ≡ slice_index bases b + t + j + 4 * slice_index levels (a + i * m) = omega (arith, band, here, first, same) in
    ap (slice_index f) index

-- one more band
pub group_next : (f levels bases : List ℕ) (m n from to b a t j x y : ℕ) → 0 < m → n ≡ n / m * m → from ≤ b → b < to → to ≤ 50 → AreWide n from to → ArePieces m from to levels → a ≡ slice_index bndtab_list b → m * x ≡ total_from (entry_at f levels bases (t + j)) (slice_index bndtab_list from) (a - slice_index bndtab_list from) → y ≡ x + total_from (piece_at f levels (slice_index bases b + t + j) a m) 0 (n / m) → m * y ≡ total_from (entry_at f levels bases (t + j)) (slice_index bndtab_list from) (a + n - slice_index bndtab_list from)
group_next f levels bases m n from to b a t j x y some whole lo hi most wide pieces e before add =
    let F = entry_at f levels bases (t + j) in
    let P = piece_at f levels (slice_index bases b + t + j) a m in
    let s = slice_index bndtab_list from in
    let rise = starts_rise from b lo (omega arith) in
    let band = total_pieces F P a m (n / m) (λ i k l q. piece_is f levels bases m n from to b a t j i k lo hi most wide pieces e (piece_in i n m some l).0 q) in
    let parts = total_parts F s (a - s) n in
    let here : s + (a - s) ≡ a = omega arith in
    let at = ap (λ v. total_from F v n) here in
    let count : a - s + n ≡ a + n - s = omega arith in
    let whole-band : total_from F a (n / m * m) ≡ total_from F a n = ap (total_from F a) (sym whole) in
    let twice : m * y ≡ m * x + m * total_from P 0 (n / m) = ap (λ v. m * v) add ∙ (let d : m * (x + total_from P 0 (n / m)) ≡ m * x + m * total_from P 0 (n / m) = omega arith in d) in
    let all : m * x + m * total_from P 0 (n / m) ≡ total_from F s (a - s) + total_from F (s + (a - s)) n = omega (arith, before, band, whole-band, at) in
    twice ∙ all ∙ sym parts ∙ ap (total_from F s) count

-- the bins of a band are among those of its bands
pub band_within : (n from to b a : ℕ) → from ≤ b → b < to → to ≤ 50 → AreWide n from to → a ≡ slice_index bndtab_list b → (slice_index bndtab_list from ≤ a) × (a + n ≤ slice_index bndtab_list to) × (a + n ≤ 253) × (a + n ≡ slice_index bndtab_list (b + 1))
band_within n from to b a lo hi most wide e =
    let next = wide b lo hi in
    let rise = starts_rise from b lo (omega arith) in
    let rest = starts_rise (b + 1) to (omega arith) (omega arith) in
    let end = starts_small to (omega arith) in
    (omega arith, omega arith, omega arith, omega arith)

-- a part of a product is at most the product
pub part_small : (m x y : ℕ) → 0 < m → m * x ≤ y → x ≤ y
part_small m x y some l = omega (arith, mul-le 1 x m x some (omega arith))

-- a sum so far, from z on, has room for the next part
pub room_at : (f : ℕ → ℕ) (s e a b x z : ℕ) → s ≤ a → a ≤ b → b ≤ e → ((n : ℕ) → s + n ≤ e → total_from f s n ≤ 96 * n) → z + 96 * (e - s) < 2 ^ 16 → x ≡ z + total_from f s (a - s) → x + 96 * (b - a) < 2 ^ 16
room_at f s e a b x z p q r small room so_far =
    omega (arith, small (a - s) (omega arith), room, so_far)

-- and with that part
pub next_at : (f : ℕ → ℕ) (s a b x y z : ℕ) → s ≤ a → a ≤ b → x ≡ z + total_from f s (a - s) → y ≡ x + total_from f a (b - a) → y ≡ z + total_from f s (b - s)
next_at f s a b x y z p q so_far next = omega (arith, so_far, next, total_joined f s a b p q)

pub none_so_far : (f : ℕ → ℕ) (s x : ℕ) → x ≡ x + total_from f s (s - s)
none_so_far f s x =
    let z : s - s ≡ 0 = omega arith in omega (arith, ap (total_from f s) z, total_none f s)

-- ---- three parts: bins of a cut band, whole bands, bins of a cut band
two_parts : (f : ℕ → ℕ) (s a z p x y : ℕ) → s ≤ a → a ≤ z → p ≡ a → x ≡ total_from f s (p - s) → y ≡ x + total_from f a (z - a) → y ≡ total_from f s (z - s)
two_parts f s a z p x y q r ep ex ey =
    omega (arith, ap (λ v. total_from f s (v - s)) ep, ex, ey, total_joined f s a z q r)

pub parts_room : (f levels bases : List ℕ) (t s e a z p x : ℕ) → ((i : ℕ) → i < 4128 → slice_index f i ≤ 96) → t ≤ 1023 → ((k : ℕ) → s ≤ k → k < e → slice_index levels k ≤ 192) → ((b : ℕ) → b < 50 → slice_index bases b ≤ 2232) → e ≤ 253 → s ≤ a → a ≤ z → z ≤ e → p ≡ a → x ≡ total_from (entry_at f levels bases t) s (p - s) → x + 96 * (z - a) < 2 ^ 16
parts_room f levels bases t s e a z p x small h l b most q r w ep ex =
    let few = sums_small f levels bases t s e (p - s) small h l b most (omega arith) in omega (arith, few, ex)

pub parts_last : (f levels bases : List ℕ) (t s e a z p o x y u : ℕ) → ((i : ℕ) → i < 4128 → slice_index f i ≤ 96) → t ≤ 1023 → ((k : ℕ) → s ≤ k → k < e → slice_index levels k ≤ 192) → ((b : ℕ) → b < 50 → slice_index bases b ≤ 2232) → e ≤ 253 → s ≤ a → a ≤ z → z ≤ e → p ≡ a → o ≡ z → x ≡ total_from (entry_at f levels bases t) s (p - s) → y ≡ x + total_from (entry_at f levels bases t) a (z - a) → u ≡ total_from (entry_at f levels bases t) o (e - o) → y + 1 * u < 2 ^ 16
parts_last f levels bases t s e a z p o x y u small h l b most q r w ep eo ex ey eu =
    let F = entry_at f levels bases t in
    let whole = two_parts F s a z p x y q r ep ex ey in
    let few = sums_small f levels bases t s e (z - s) small h l b most (omega arith) in
    let rest = sums_small f levels bases t o e (e - o) small h (λ k v m. l k (omega arith) m) b most (omega arith) in
    omega (arith, whole, few, eu, rest)

pub parts_all : (f : ℕ → ℕ) (s e a z p o x y u v : ℕ) → s ≤ a → a ≤ z → z ≤ e → p ≡ a → o ≡ z → x ≡ total_from f s (p - s) → y ≡ x + total_from f a (z - a) → u ≡ total_from f o (e - o) → v ≡ y + 1 * u → v ≡ total_from f s (e - s)
parts_all f s e a z p o x y u v q r w ep eo ex ey eu ev =
    let whole = two_parts f s a z p x y q r ep ex ey in
    let rest = ap (λ i. total_from f i (e - i)) eo in
    omega (arith, whole, eu, rest, ev, total_joined f s z e (omega arith) w)
