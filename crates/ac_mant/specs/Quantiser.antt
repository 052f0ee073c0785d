-- Quantised mantissas and the values that they stand for (A/52 7.3.3, 7.3.4). Which codes there are is the standard's; the roundings, in
-- whole numbers, are this project's profile.
use Rattle.std.specs.Prelude.{ℕ, ◌+◌, ◌-◌, ◌*◌, ◌^◌, ◌<◌, List, [], ◌∷◌, slice_index, Bool, nat_le, nat_lt, if◌then◌else◌, ℤ, pos, negsuc, ◌+ℤ◌, ◌-ℤ◌, ◌*ℤ◌}
use Rattle.std.specs.Int.{int_min}
use Rattle.ac_base.specs.Floor.{floor_div}

-- the symmetric quantisers: the levels of pointers 1 to 5, and the one of pointer 0, of which nothing is sent (A/52 Tables 7.17 to 7.23)
abbrev pub levels_list : List ℕ
levels_list = 1 ∷ 3 ∷ 5 ∷ 7 ∷ 11 ∷ 15 ∷ []

unfoldable pub levels : ℕ → ℕ
levels bap = slice_index levels_list bap

-- the asymmetric quantisers: the bits of pointers 6 to 15 (A/52 Table 7.17)
abbrev pub widths_list : List ℕ
widths_list = 0 ∷ 0 ∷ 0 ∷ 0 ∷ 0 ∷ 0 ∷ 5 ∷ 6 ∷ 7 ∷ 8 ∷ 9 ∷ 10 ∷ 11 ∷ 12 ∷ 14 ∷ 16 ∷ []

unfoldable pub width : ℕ → ℕ
width bap = slice_index widths_list bap

-- the quantiser of a pointer is symmetric (A/52 Table 7.17)
abbrev pub is_symmetric : ℕ → Bool
is_symmetric bap = nat_le bap 5

-- a code of a pointer (A/52 7.3.3, 7.3.4)
abbrev pub code_limit : ℕ → ℕ
code_limit bap = if is_symmetric bap then levels bap else 2 ^ width bap

abbrev pub IsCode : ℕ → ℕ → Type 0
IsCode bap code = code < code_limit bap

-- ---- the encoder's side

-- a coefficient of scale 2 ^ 24, normalised by its exponent (A/52 8.2.8, 8.2.9)
abbrev pub normalised : ℤ → ℕ → ℤ
normalised c e = c *ℤ pos (2 ^ e)

-- a number, and 0 for one below 0
abbrev pub natural : ℤ → ℕ
natural (pos n) = n
natural (negsuc n) = 0

-- which of the levels of equal width stands around z, from the lowest (A/52 7.3.3)
unfoldable pub level_of : ℕ → ℤ → ℕ
level_of levels z = natural (floor_div ((z +ℤ pos (2 ^ 24)) *ℤ pos levels) (2 ^ 25))

-- the nearest multiple of the step, at most the greatest (A/52 7.3.4)
unfoldable pub nearest : ℕ → ℤ → ℤ
nearest width z = int_min (floor_div (z +ℤ pos (2 ^ (24 - width))) (2 ^ (25 - width))) (pos (2 ^ (width - 1) - 1))

-- a number in two's complement of so many bits (A/52 7.3.4)
unfoldable pub complement : ℕ → ℤ → ℕ
complement width (pos n) = n
complement width (negsuc n) = 2 ^ width - (n + 1)

-- the code of a coefficient by its exponent and its pointer
abbrev pub code_of : ℤ → ℕ → ℕ → ℕ
code_of c e bap =
    if is_symmetric bap then level_of (levels bap) (normalised c e) else complement (width bap) (nearest (width bap) (normalised c e))

-- ---- the decoder's side

-- the number that a code stands for in two's complement (A/52 7.3.4)
unfoldable pub signed : ℕ → ℕ → ℤ
signed width code = if nat_lt code (2 ^ (width - 1)) then pos code else pos code -ℤ pos (2 ^ width)

-- the middle of a level, of scale 2 ^ 24 (A/52 Tables 7.19 to 7.23), over 2 to the exponent
unfoldable pub middle : ℕ → ℕ → ℕ → ℤ
middle levels code e = floor_div ((pos (2 * code + 1) -ℤ pos levels) *ℤ pos (2 ^ 24)) (levels * 2 ^ e)

-- a multiple of the step, likewise
unfoldable pub multiple : ℕ → ℕ → ℕ → ℤ
multiple width code e = floor_div (signed width code *ℤ pos (2 ^ (25 - width))) (2 ^ e)

-- the value of a code
abbrev pub value_of : ℕ → ℕ → ℕ → ℤ
value_of code bap e = if is_symmetric bap then middle (levels bap) code e else multiple (width bap) code e
