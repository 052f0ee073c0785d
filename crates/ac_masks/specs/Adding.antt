-- Log-addition by a table (A/52 7.2.2.3): what it adds to a level depends on how far the other is above it alone. The standard doesn't
-- state it.
use Rattle.std.specs.Prelude.{◌≡◌, ℕ, ◌-◌, ◌<◌, List, slice_index}
use Rattle.ac_alloc.specs.Integration.{logadd}

-- a bound of densities by levels below 256, of at most 24 bins: 16 times 255, and 64 for each log-addition
abbrev pub most_sum : ℕ
most_sum = 5552

-- by the level x that is added, what is added to the level 5552
abbrev pub IsAddTable : List ℕ → Type 0
IsAddTable rises = (x : ℕ) → x < 9633 → slice_index rises x ≡ logadd most_sum x - most_sum
