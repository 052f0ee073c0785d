-- What the coefficients are before and behind the separation of a block.
use Rattle.std.specs.Prelude.{◌≡◌, ℕ, ◌<◌, ◌≤◌, ◌^◌, List, ℤ, unsigned_abs}
use Rattle.ac_energy.specs.Coefficients.{entry}
use Rattle.ac_record.specs.Frames.{FrameCodes}
use Rattle.ac_dec.specs.Heard.{values_of, separated_of}

-- block b of an array is x, with values that a coefficient has
pub record HasBlock (x : ℕ → ℕ → ℤ) (b : ℕ) (coefs : List (List (List ℤ))) : Type 0 where
  pub is : (c k : ℕ) → c < 7 → k < 256 → entry coefs c b k ≡ x c k
  pub small : (c k : ℕ) → c < 7 → k < 256 → unsigned_abs (entry coefs c b k) ≤ 2 ^ 24

-- it is the values of a reading
abbrev pub HasValues : FrameCodes → ℕ → List (List (List ℤ)) → Type 0
HasValues g b coefs = HasBlock (values_of g b) b coefs

-- they are taken apart
abbrev pub HasSeparated : FrameCodes → ℕ → List (List (List ℤ)) → Type 0
HasSeparated g b coefs = HasBlock (separated_of g b) b coefs
