-- The cosines of all phases, of scale 2 ^ 30, period 2048, from the quarter table. The standard's are real numbers (A/52 7.9.4.1,
-- 8.2.3.2); these are this project's profile, the real cosine's symmetries kept.
use Rattle.std.specs.Prelude.{◌≡◌, ℕ, ◌-◌, ◌%◌, ◌≤◌, min, nat_lt, nat_le, if◌then◌else◌, ℤ, pos, neg_ℤ, List, slice_index_or}
use Rattle.ac_base.specs.Quarter.{cosine_of}

-- the quarter table; its entry 512 is 0
unfoldable pub quarter_of : ℕ → ℕ
quarter_of j = if nat_lt j 512 then cosine_of j else 0

-- a list is the quarter table
abbrev pub IsQuarter : List ℤ → Type 0
IsQuarter table = (j : ℕ) → j ≤ 512 → slice_index_or table j (pos 0) ≡ pos (quarter_of j)

-- half a period, phases 0 to 1024
unfoldable pub half_wave : ℕ → ℤ
half_wave q = if nat_le q 512 then pos (quarter_of q) else neg_ℤ (pos (quarter_of (1024 - q)))

-- the cosine of any phase
unfoldable pub cosine_at : ℕ → ℤ
cosine_at p = let r = p % 2048 in half_wave (min r (2048 - r))
