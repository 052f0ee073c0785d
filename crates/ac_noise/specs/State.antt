-- What the code keeps of the sound, and fills.
use Rattle.std.specs.Prelude.{◌≡◌, ℕ, ◌*◌, ◌^◌, ◌<◌, ◌≤◌, ℤ, pos, List, slice_index_or, unsigned_abs}
use Rattle.ac_noise.specs.Noise.{Noising, state_at}
use Rattle.ac_noise.specs.declared.noise.Noise.TheInside.{Inside}

-- what contracts see of it
abbrev pub noising_of : Inside → Noising
noising_of a = record { seed = a.seed; frames = a.frames; given = a.given }

-- before the last frame was given the state is the one before the next sample
abbrev pub IsNoise : Inside → Type 0
IsNoise a = a.given < a.frames → a.state ≡ state_at a.seed (2 * (1536 * a.given))

-- the first n items are f 0, f 1 .. of 24 bits, and the others stay
pub record IsFilled (n : ℕ) (f : ℕ → ℤ) (old new : List ℤ) : Type 0 where
  pub value : (t : ℕ) → t < n → slice_index_or new t (pos 0) ≡ f t
  pub bound : (t : ℕ) → t < n → unsigned_abs (slice_index_or new t (pos 0)) ≤ 2 ^ 23
  pub rest : (t : ℕ) → n ≤ t → slice_index_or new t (pos 0) ≡ slice_index_or old t (pos 0)
