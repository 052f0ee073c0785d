-- The remainder of a list of bits by the generator of A/52 7.10.1. The standard gives a shift register; that
-- the remainder is told by sums of shifted copies is this project's own form.
use Rattle.std.specs.Prelude.{◌≡◌, ℕ, ◌<◌, ◌^◌, Bool, true, false, List, [], ◌∷◌, ◌++◌, length, replicate}
use Rattle.std.proofs.Math.Bool.{xor}
use Rattle.ac_bits.specs.Bits.{bits}

-- a sum without carries, of two lists of one length
unfoldable pub add : List Bool → List Bool → List Bool
add [] ys = ys
add (x ∷ xs) [] = x ∷ xs
add (x ∷ xs) (y ∷ ys) = xor x y ∷ add xs ys

-- n zeros
abbrev pub zeros : ℕ → List Bool
zeros n = replicate n false

-- x^16 + x^15 + x^2 + 1 (A/52 7.10.1), by its coefficients from x^16 down
abbrev pub generator : List Bool
generator = true ∷ true ∷ false ∷ false ∷ false ∷ false ∷ false ∷ false ∷ false ∷ false ∷ false ∷ false ∷ false ∷ false ∷ true ∷ false ∷ true ∷ []

-- the sum of the shifted copies of the generator that q picks
unfoldable pub copies : List Bool → List Bool
copies [] = zeros 16
copies (false ∷ q) = false ∷ copies q
copies (true ∷ q) = add (generator ++ zeros (length q)) (false ∷ copies q)

-- the list followed by the 16 bits of r is such a sum
pub record IsRemainder (l : List Bool) (r : ℕ) : Type 0 where
  pub fits : r < 2 ^ 16
  pub picked : List Bool
  pub sum : copies picked ≡ l ++ bits r 16
