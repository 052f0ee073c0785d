-- What contracts see of the lists and of the table of runs of a frame.
use Rattle.std.specs.Prelude.{ℕ, List}
use Rattle.ac_base.specs.declared.shapes.Shape.{Shape}

-- a shape and raw exponents
pub record Exponents : Type 0 where
  pub shape : Shape
  pub raw : List (List (List ℕ))

-- the same with an offset
pub record AtOffset : Type 0 where
  pub shape : Shape
  pub raw : List (List (List ℕ))
  pub t : ℕ

abbrev pub exponents : Shape → List (List (List ℕ)) → Exponents
exponents shape raw = record { shape = shape; raw = raw }

abbrev pub at_offset : Shape → List (List (List ℕ)) → ℕ → AtOffset
at_offset shape raw t = record { shape = shape; raw = raw; t = t }
