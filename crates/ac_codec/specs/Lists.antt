-- The bits of lists of rows.
use Rattle.std.specs.Prelude.{Bool, List, [], ◌∷◌, ◌++◌}

-- the bits of each entry, in order
abbrev pub spelled_each : {A : Type 0} → (A → List Bool) → List A → List Bool
spelled_each spell [] = []
spelled_each spell (x ∷ xs) = spell x ++ spelled_each spell xs
