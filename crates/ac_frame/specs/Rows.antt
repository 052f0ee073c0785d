-- A frame as a list of rows (A/52 5.3): each is a field, as its number and its width in bits.
use Rattle.std.specs.Prelude.{ℕ, Bool, List, [], ◌∷◌, ◌++◌}
use Rattle.ac_bits.specs.Bits.{bits}

pub record Row : Type 0 where
  pub value : ℕ  -- the field's number
  pub width : ℕ  -- how many bits it has

-- a field with this number and width
abbrev pub row : ℕ → ℕ → Row
row value width = record { value = value; width = width }

-- the bits of the rows, one row after the other, each most significant bit first (A/52 5.3)
unfoldable pub spell : List Row → List Bool
spell [] = []
spell (r ∷ rows) = bits r.value r.width ++ spell rows

-- the groups of an exponent list, 7 bits each (A/52 5.4.3.27)
unfoldable pub group_rows : List ℕ → List Row
group_rows [] = []
group_rows (g ∷ groups) = row g 7 ∷ group_rows groups
