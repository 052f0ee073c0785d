-- What an object of the outside tells: a source the bytes to come, a sink the bytes taken, and both how
-- many of their calls failed. The standard knows no files, so all of it is this project's own.
use Rattle.std.specs.Prelude.{◌≡◌, ℕ, ◌+◌, ◌-◌, ◌<◌, ◌≤◌, ◌^◌, min, List, [], ◌++◌, length, take, drop, Option, Some, None}

-- one more, but a count of 64 bits stands still at its end
abbrev pub next : ℕ → ℕ
next n = min (n + 1) (2 ^ 64 - 1)

-- a count of faults rose, or stands at its last value
abbrev pub Rose : ℕ → ℕ → Type 0
Rose old new = next old ≤ new

-- n bytes were read: the first n of those that were to come, where these are told
abbrev pub ReadsFront : Option (List ℕ) → Option (List ℕ) → List ℕ → ℕ → Type 0
ReadsFront None new into n = Unit {0}
ReadsFront (Some bytes) new into n = (n ≤ length bytes) × (take n into ≡ take n bytes) × (new ≡ Some (drop n bytes))

-- 0 bytes: nothing is to come
abbrev pub IsAtEnd : Option (List ℕ) → Type 0
IsAtEnd None = Unit {0}
IsAtEnd (Some bytes) = bytes ≡ []

-- where it is still told, nothing was lost
abbrev pub LosesNothing : Option (List ℕ) → Option (List ℕ) → Type 0
LosesNothing None new = Unit {0}
LosesNothing (Some bytes) None = Unit {0}
LosesNothing (Some bytes) (Some rest) = rest ≡ bytes

-- the piece was added
abbrev pub Adds : Option (List ℕ) → Option (List ℕ) → List ℕ → Type 0
Adds None new piece = Unit {0}
Adds (Some held) new piece = new ≡ Some (held ++ piece)

-- a front of the piece was added
abbrev pub AddsFront : Option (List ℕ) → Option (List ℕ) → List ℕ → Type 0
AddsFront None new piece = Unit {0}
AddsFront (Some held) new piece = (k : ℕ) × (new ≡ Some (held ++ take k piece))

-- where it is still told, fewer than limit bytes of its front were lost
abbrev pub LosesFewer : Option (List ℕ) → Option (List ℕ) → ℕ → Type 0
LosesFewer None new limit = Unit {0}
LosesFewer (Some bytes) None limit = Unit {0}
LosesFewer (Some bytes) (Some rest) limit = (k : ℕ) × (k < limit) × (k ≤ length bytes) × (rest ≡ drop k bytes)
