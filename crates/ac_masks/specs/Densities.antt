-- The power spectral densities of the bands of a run from the levels of its exponents (A/52 7.2.2.2, 7.2.2.3). The level of exponent e is
-- 8 (24 - e), so that 16 times it is the density of the bin.
use Rattle.std.specs.Prelude.{◌≡◌, ℕ, ◌*◌, ◌-◌, ◌<◌, ◌≤◌, List, [], slice_index, slice_index_or, if◌then◌else◌}
use Rattle.ac_base.specs.declared.spans.Span.{Span}
use Rattle.ac_base.specs.Spans.{IsIn}
use Rattle.ac_alloc.specs.Integration.{folded, meets, first_bin, last_bin}
use Rattle.ac_sixths.specs.Runs.{level_of}

-- the levels are those of the exponents
abbrev pub AreLevelsOf : Span → List ℕ → List ℕ → Type 0
AreLevelsOf s exps levels = (k : ℕ) → IsIn s k → (slice_index exps k ≤ 24) × (slice_index levels k ≡ level_of (slice_index exps k))

-- of bin k
abbrev pub bin_density : List ℕ → ℕ → ℕ
bin_density levels k = 16 * slice_index levels k

-- of band b, and 0 where it has no bin of the span
abbrev pub band_density : ℕ → ℕ → List ℕ → ℕ → ℕ
band_density start end levels b =
    if meets start end b then folded (bin_density levels) (first_bin start b) (last_bin end b - first_bin start b) else 0

-- of a row's band b in a table by band and row
abbrev pub density_in : List (List ℕ) → ℕ → ℕ → ℕ
density_in table row b = slice_index (slice_index_or table b []) row
