-- The places that a folded sum keeps: this project's own way to the sums of A/52 7.9.4.1 and 8.2.3.2.
use Rattle.std.specs.Prelude.{ℕ, ◌+◌, ◌-◌, List, ℤ, pos, neg_ℤ, slice_index_or, nat_lt, if◌then◌else◌}

-- places 0 to 127, then 256 to 383
unfoldable pub place : ℕ → ℕ
place i = if nat_lt i 128 then i else i + 128

-- the sum at place n, from the sums at the places kept
unfoldable pub unfolded : List ℤ → ℕ → ℤ
unfolded sums n =
    if nat_lt n 128
    then slice_index_or sums n (pos 0)
    else
    if nat_lt n 256
    then neg_ℤ (slice_index_or sums (255 - n) (pos 0))
    else if nat_lt n 384 then slice_index_or sums (n - 128) (pos 0) else slice_index_or sums (639 - n) (pos 0)
