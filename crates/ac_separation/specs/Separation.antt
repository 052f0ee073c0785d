-- Coupled and rematrixed channels, taken apart (A/52 7.4.3, 7.5.3). f is a block that was filled, so that it has all that it needs
-- (5.4.3), and x are the values of this block by coded channel and bin. The scale, the rounding downwards and the clamp are this
-- project's profile.
use Rattle.std.specs.Prelude.{ℕ, zero, suc, ◌+◌, ◌-◌, ◌*◌, ◌/◌, ◌^◌, ◌==◌, min, nat_lt, nat_le, nat_eq, ◌&&◌, Bool, if◌then◌else◌}
use Rattle.std.specs.Prelude.{ℤ, pos, neg_ℤ, ◌+ℤ◌, ◌*ℤ◌, Option, Some, None, [], slice_index_or}
use Rattle.std.specs.Int.{int_max, int_min}
use Rattle.ac_base.specs.declared.spans.Span.{Span}
use Rattle.ac_base.specs.Floor.{floor_div}
use Rattle.ac_base.specs.Shape.{full_of, coupling_start}
use Rattle.ac_coordinates.specs.Factor.{factor_of}
use Rattle.ac_rematrix.specs.Rematrix.{band_at}
use Rattle.ac_rows.specs.Blocks.{Block}
use Rattle.ac_rows.specs.declared.head.Head.{Head}
use Rattle.ac_rows.specs.Groups.{strategy_of}
use Rattle.ac_rows.specs.Filled.{holds, number, entry, range_of, is_coupled, span_in}

-- the nearest number within the bounds of a coefficient
abbrev pub clamped : ℤ → ℤ
clamped z = int_max (neg_ℤ (pos (2 ^ 24))) (int_min z (pos (2 ^ 24)))

-- the bin is one of the span
abbrev pub is_in : Span → ℕ → Bool
is_in span k = nat_le span.start k && nat_lt k span.end

-- ---- coupling

-- the band of a subband of the coupling channel: that of the subband before where it is joined to it, or else the next (A/52 5.4.3.13)
unfoldable pub band_of : Block → ℕ → ℕ
band_of f zero = 0
band_of f (suc n) = if holds (entry f.cplbndstrc (suc n)) then band_of f n else suc (band_of f n)

-- the factor of a channel in a band, in units of 2^-19, by its cplcoexp and cplcomant. Each is at most the greatest number of its
-- field, as each field that is read is (A/52 5.4.3.16, 5.4.3.17, 7.4.3)
abbrev pub factor_in : Block → ℕ → ℕ → ℕ
factor_in f c band =
    factor_of
    (min (number (entry (slice_index_or f.cplcoexp c []) band)) 15)
    (min (number (entry (slice_index_or f.cplcomant c []) band)) 15)

-- mstrcplco, by the same (A/52 5.4.3.15)
abbrev pub master_in : Block → ℕ → ℕ
master_in f c = min (number (entry f.mstrcplco c)) 3

-- 8 times the coupling channel's value, times the factor, times 2^-3 for each step of mstrcplco, rounded downwards (A/52 7.4.3)
abbrev pub scaled : ℤ → ℕ → ℕ → ℤ
scaled x factor master = floor_div (x *ℤ pos factor) (2 ^ (16 + 3 * master))

-- the right channel is turned in a band with a phase flag. There is such a flag only with two channels (A/52 5.4.3.18, 7.4.3)
abbrev pub is_turned : Block → ℕ → ℕ → Bool
is_turned f c band = c == 1 && holds (entry f.phsflg band)

-- the other sign, where the test holds
abbrev pub turned : Bool → ℤ → ℤ
turned there z = if there then neg_ℤ z else z

-- what a coupled channel has in a band where the coupling channel has x
abbrev pub separated : Block → ℕ → ℕ → ℤ → ℤ
separated f c band x = clamped (turned (is_turned f c band) (scaled x (factor_in f c band) (master_in f c)))

-- the coupled channels have theirs at the bins of the coupling channel, whose subbands have 12 bins (A/52 5.4.3.12); all others as before
unfoldable pub uncoupled_of : Head → Block → (ℕ → ℕ → ℤ) → ℕ → ℕ → ℤ
uncoupled_of h f x c k =
    let full = full_of h.acmod in
    let shared = span_in h f full in
    if nat_lt c full && is_coupled (strategy_of f) c && is_in shared k
    then separated f c (band_of f ((k - shared.start) / 12)) (x full k)
    else x c k

-- ---- rematrixing

-- a bin, or the first of the coupling channel where that comes sooner
abbrev pub cut_at : Option (ℕ × ℕ) → ℕ → ℕ
cut_at None k = k
cut_at (Some p) k = min k (coupling_start p.0)

-- the bin behind the last of the bands: where the shorter of the two channels ends, or the coupling channel begins (A/52 7.5.2)
abbrev pub cut_in : Head → Block → ℕ
cut_in h f = cut_at (range_of (strategy_of f)) (min (span_in h f 0).end (span_in h f 1).end)

-- a bin whose band has a flag that is 1. There is such a flag only with two channels (A/52 5.4.3.20, 7.5.2)
abbrev pub has_sums : Head → Block → ℕ → Bool
has_sums h f k = nat_le 13 k && nat_lt k (cut_in h f) && holds (entry f.rematflg (band_at k))

-- there the left channel has the sum of the two, and the right one their difference; all else as before (A/52 7.5.3)
unfoldable pub unrematrixed_of : Head → Block → (ℕ → ℕ → ℤ) → ℕ → ℕ → ℤ
unrematrixed_of h f x c k =
    if has_sums h f k
    then (if nat_eq c 0 then clamped (x 0 k +ℤ x 1 k) else if nat_eq c 1 then clamped (x 0 k +ℤ neg_ℤ (x 1 k)) else x c k)
    else x c k
