-- What the text of a number may not begin with: this project's own, as all of the words.
use Rattle.std.specs.Prelude.{ℕ, Bool, ◌==◌, ◌&&◌, not, false, List, [], ◌∷◌}

-- some byte stands there, no plus (43) stands first, and no zero (48) before another byte
abbrev pub is_bare_number : List ℕ → Bool
is_bare_number [] = false
is_bare_number (b ∷ []) = not (b == 43)
is_bare_number (b ∷ c ∷ rest) = not (b == 43) && not (b == 48)
