-- The power spectral density of bins, and of bands by log-addition (A/52 7.2.2.2, 7.2.2.3).
use Rattle.std.specs.Prelude.{ℕ, zero, suc, ◌+◌, ◌*◌, ◌/◌, ◌-◌, ◌<◌, ◌≤◌, min, max, List, slice_index, Bool, if◌then◌else◌, nat_lt, ◌&&◌}
use Rattle.std.specs.Int.{abs_diff}
use Rattle.ac_base.specs.Allocation.{latab_list, bndtab_list}

-- the exponents from start up to but not end are at most 24 (A/52 7.1)
abbrev pub AreExponents : ℕ → ℕ → List ℕ → Type 0
AreExponents start end exps = (k : ℕ) → start ≤ k → k < end → slice_index exps k ≤ 24

-- of bin k (A/52 7.2.2.2)
abbrev pub psd : List ℕ → ℕ → ℕ
psd exps k = 3072 - 128 * slice_index exps k

-- bounds that follow, which the standard doesn't state: of a bin's density
abbrev pub most_psd : ℕ
most_psd = 3072

-- and of a band's, of at most 24 bins, as each log-addition adds at most 64
abbrev pub most_density : ℕ
most_density = 3072 + 23 * 64

-- the logarithm of a sum, from the logarithms of what is added (A/52 7.2.2.3, Table 7.14)
unfoldable pub logadd : ℕ → ℕ → ℕ
logadd a b = max a b + slice_index latab_list (min (abs_diff a b / 2) 255)

-- f a, f (a + 1) and so on to f (a + n), added from the left (A/52 7.2.2.3)
abbrev pub folded : (ℕ → ℕ) → ℕ → ℕ → ℕ
folded f a zero = f a
folded f a (suc n) = logadd (folded f a n) (f (a + suc n))

-- band b has a bin of the span from start up to but not end (A/52 Table 7.12)
abbrev pub meets : ℕ → ℕ → ℕ → Bool
meets start end b = nat_lt (slice_index bndtab_list b) end && nat_lt start (slice_index bndtab_list (b + 1))

-- the first and the last of these bins
abbrev pub first_bin : ℕ → ℕ → ℕ
first_bin start b = max start (slice_index bndtab_list b)

abbrev pub last_bin : ℕ → ℕ → ℕ
last_bin end b = min end (slice_index bndtab_list (b + 1)) - 1

-- the power spectral density of band b: the left fold of logadd over these bins (A/52 7.2.2.3), and 0 where there is none
abbrev pub bndpsd : ℕ → ℕ → List ℕ → ℕ → ℕ
bndpsd start end exps b =
    if meets start end b then folded (psd exps) (first_bin start b) (last_bin end b - first_bin start b) else 0
