-- Two neighbouring bins at once, in runs whose exponents differ by at most 2 from bin to bin (A/52 7.1.3).
use Rattle.std.specs.Prelude.{◌≡◌, ℕ, ◌+◌, ◌*◌, ◌/◌, ◌%◌, ◌-◌, ◌<◌, ◌≤◌, pos, ◌-ℤ◌, List, slice_index}
use Rattle.ac_base.specs.Allocation.{masktab_list}
use Rattle.ac_sixths.specs.Keys.{sixths}
use Rattle.ac_sixths.specs.Runs.{total_from}

-- what two bins cost, the second 32 d - 64 further on than the first: its exponent is d - 2 less
abbrev pub pair_sixths : ℕ → ℕ → ℕ
pair_sixths d i = sixths (pos 3000 -ℤ pos i) + sixths (pos 3064 -ℤ pos (i + 32 * d))

-- five tables of them, one for each d
abbrev pub IsPairTable : List ℕ → Type 0
IsPairTable f = (n : ℕ) → n < 20640 → slice_index f n ≡ pair_sixths (n / 4128) (n % 4128)

-- the code of two levels: 4 times it is 4 times the first, and 4128 d
abbrev pub pair_of : ℕ → ℕ → ℕ
pair_of level next = level + 129 * (next + 16 - level)

-- levels of exponents at most 24 that differ by at most 2
abbrev pub AreNear : ℕ → ℕ → Type 0
AreNear level next =
    (level ≤ 192) × (next ≤ 192) × (level ≡ 8 * (level / 8)) × (next ≡ 8 * (next / 8)) × (next ≤ level + 16) × (level ≤ next + 16)

-- the entry of the pair of bins k and k + 1 at offset t
abbrev pub pair_at : List ℕ → List ℕ → List ℕ → ℕ → ℕ → ℕ
pair_at f pairs bases t k = slice_index f (slice_index bases (slice_index masktab_list k) + 4 * slice_index pairs k + t)

-- the sum of n pairs from bin a on
abbrev pub pair_total : List ℕ → List ℕ → List ℕ → ℕ → ℕ → ℕ → ℕ
pair_total f pairs bases t a n = total_from (λ i. pair_at f pairs bases t (a + i * 2)) 0 n

-- the codes of neighbouring levels, each with the next
abbrev pub ArePairs : ℕ → ℕ → List ℕ → List ℕ → Type 0
ArePairs start end levels pairs =
    (k : ℕ) → start ≤ k → k + 1 < end
    → AreNear (slice_index levels k) (slice_index levels (k + 1))
    × (slice_index pairs k ≡ pair_of (slice_index levels k) (slice_index levels (k + 1)))
