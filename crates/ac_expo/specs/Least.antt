-- Least numbers: arithmetic for the choice of exponents, which is this project's own.
use Rattle.std.specs.Prelude.{ℕ, zero, suc, ◌+◌, ◌-◌, ◌*◌, min}

-- how far two steps stand apart
abbrev pub distance : ℕ → ℕ → ℕ
distance g h = (g - h) + (h - g)

-- the least of f 0 to f n
unfoldable pub least : ℕ → (ℕ → ℕ) → ℕ
least zero f = f 0
least (suc n) f = min (least n f) (f (suc n))

-- at step g the least of all r h + 2 |g - h|
abbrev pub spread : ℕ → (ℕ → ℕ) → ℕ → ℕ
spread last r g = least last (λ h. r h + 2 * distance g h)
