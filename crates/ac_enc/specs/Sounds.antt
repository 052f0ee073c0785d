-- The layout of a sound, as the code keeps it; and what its shapes are told to have.
use Rattle.std.specs.Prelude.{◌≡◌, ℕ, ◌<◌, ◌^◌, unsigned_abs, Some}
use Rattle.ac_base.specs.declared.shapes.Shape.{Shape}
use Rattle.ac_base.specs.declared.sizes.Parts.{Parts}
use Rattle.ac_energy.specs.Coefficients.{Coefficients}
use Rattle.ac_words.specs.declared.meaning.Options.{Options}
use Rattle.ac_enc.specs.Layout.{Layout, channels_in, range_of, IsShapeWith, CheapestFits, IsFirstOver}
use Rattle.ac_enc.specs.declared.fault.NewFault.{NewFault}
use Rattle.ac_enc.specs.declared.fault.NewFault.TheVariants.{RateTooLow, NoMemory}
use Rattle.ac_enc.specs.declared.sound.Sound.{Sound}

abbrev pub layout_in : Sound → Layout
layout_in sound = record { fscod = sound.fscod; acmod = sound.acmod; lfe = sound.lfe }

-- the coefficients of the channels are below 2 ^ 24 in magnitude
abbrev pub AreSmallOf : Layout → Coefficients → Type 0
AreSmallOf l x = (c b k : ℕ) → c < channels_in l → b < 6 → k < 256 → unsigned_abs (x c b k) < 2 ^ 24

-- the shape of so many words with coupling, where it is usable
pub record IsCoupledShape (o : Options) (l : Layout) (words : ℕ) (shape : Shape) : Type 0 where
  pub range : ℕ × ℕ
  pub usable : range_of o l ≡ Some range
  pub shaped : IsShapeWith o l words (Some range) shape

-- with it the cheapest assignment fits
abbrev pub CoupledFits : Options → Layout → ℕ → Type 0
CoupledFits o l words = (range : ℕ × ℕ) × (range_of o l ≡ Some range) × CheapestFits o l words (Some range)

-- the fault names the first part that is too large
abbrev pub IsFirstFault : Parts → Parts → NewFault → Type 0
IsFirstFault p rooms (RateTooLow part needed room) = IsFirstOver p rooms part needed room
IsFirstFault p rooms NoMemory = ⊥
