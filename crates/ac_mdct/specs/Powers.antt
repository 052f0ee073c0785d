-- Odd phases as powers of five: this project's own order of the sums of A/52 7.9.4.1 and 8.2.3.2.
use Rattle.std.specs.Prelude.{ℕ, ◌+◌, List, ℤ, pos, neg_ℤ, nat_lt, if◌then◌else◌, slice_index, slice_index_or}
use Rattle.ac_mdct.specs.declared.powers.TheConstants.{LOG, FORWARD, INVERSE}
use Rattle.ac_mdct.specs.Place.{place}

-- 2 h + 1 or its opposite is 5 to this power, modulo 2048
unfoldable pub log_of : ℕ → ℕ
log_of h = slice_index LOG h

-- the folded value with logarithm b, or b + 256
unfoldable pub forward_pick : ℕ → ℕ
forward_pick b = slice_index FORWARD b

-- the coefficient with logarithm b, or b + 256
unfoldable pub inverse_pick : ℕ → ℕ
inverse_pick b = slice_index INVERSE b

-- half a turn from the power 256 on
unfoldable pub turned_by : ℕ → ℤ → ℤ
turned_by e u = if nat_lt e 256 then u else neg_ℤ u

-- folded value i, and coefficient k, with the sign at its logarithm
abbrev pub forward_turned : List ℤ → ℕ → ℤ
forward_turned u i = turned_by (log_of (place i + 128)) (slice_index_or u i (pos 0))

abbrev pub inverse_turned : List ℤ → ℕ → ℤ
inverse_turned u k = turned_by (log_of k) (slice_index_or u k (pos 0))

-- the folded values, and the coefficients, in the order of their logarithms
abbrev pub forward_spun : List ℤ → ℕ → ℤ
forward_spun u b = forward_turned u (forward_pick b)

abbrev pub inverse_spun : List ℤ → ℕ → ℤ
inverse_spun u b = inverse_turned u (inverse_pick b)
