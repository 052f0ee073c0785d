-- The layout of a sound, and the shapes that its frames may have: with coupling and without.
use Rattle.std.specs.Prelude.{◌≡◌, ◌⊎◌, ℕ, ◌+◌, ◌-◌, ◌*◌, ◌/◌, ◌<◌, ◌≤◌, min, nat_lt, nat_le, if◌then◌else◌, Bool, Option, Some, None}
use Rattle.ac_base.specs.declared.shapes.Shape.{Shape}
use Rattle.ac_base.specs.declared.sizes.Part.{Part}
use Rattle.ac_base.specs.declared.sizes.Part.TheVariants.{Front, Total, Last}
use Rattle.ac_base.specs.declared.sizes.Parts.{Parts}
use Rattle.ac_base.specs.Fit.{FitIn, parts_of, rooms_of}
use Rattle.ac_base.specs.Shape.{full_of, count_of}
use Rattle.ac_base.specs.Sizes.{table_words}
use Rattle.ac_cost.specs.Parts.{cheapest_words}
use Rattle.ac_riff.specs.declared.head.WavHead.{WavHead}
use Rattle.ac_words.specs.declared.meaning.Couple.{Couple}
use Rattle.ac_words.specs.declared.meaning.Couple.TheVariants.{Off, Auto, Bins}
use Rattle.ac_words.specs.declared.meaning.Options.{Options}
use Rattle.ac_enc.specs.declared.fault.NewFault.{NewFault}
use Rattle.ac_enc.specs.declared.fault.NewFault.TheVariants.{RateTooLow, NoMemory}

-- fscod of the sampling rate (A/52 5.4.1.3), acmod (5.4.2.3) and lfeon (5.4.2.7)
pub record Layout : Type 0 where
  pub fscod : ℕ
  pub acmod : ℕ
  pub lfe : Bool

-- that of a WAV with this head
abbrev pub layout_of : WavHead → Layout
layout_of head = record { fscod = head.fscod; acmod = head.acmod; lfe = head.lfe }

-- the channels of the sound, in coding order: the full ones, and then LFE
abbrev pub channels_in : Layout → ℕ
channels_in l = full_of l.acmod + count_of l.lfe

-- ---- shapes

-- chbwcod where it is asked for, or by the rate in kbit/s: this project's choice (A/52 5.4.3.24)
abbrev pub bandwidth_by : Option ℕ → ℕ → ℕ → ℕ
bandwidth_by None rate full = min (rate / full - 20) 60
bandwidth_by (Some bw) rate full = bw

abbrev pub bandwidth : Options → Layout → ℕ
bandwidth o l = bandwidth_by o.bw o.rate (full_of l.acmod)

-- the range of a coupling, where coupling is on: by the rate of each full channel if it is to be chosen
abbrev pub range_by : Couple → ℕ → ℕ → Option (ℕ × ℕ)
range_by Off rate full = None
range_by Auto rate full = if nat_lt rate (48 * full) then Some (8, 12) else None
range_by (Bins begin end) rate full = Some (begin, end)

-- that of the frames that couple: two full channels are needed (A/52 7.4)
abbrev pub range_of : Options → Layout → Option (ℕ × ℕ)
range_of o l = if nat_le 2 (full_of l.acmod) then range_by o.couple o.rate (full_of l.acmod) else None

-- a shape of a frame of so many words, with this coupling
pub record IsShapeWith (o : Options) (l : Layout) (words : ℕ) (couple : Option (ℕ × ℕ)) (shape : Shape) : Type 0 where
  pub sampling_rate : shape.fscod ≡ l.fscod
  pub layout : shape.acmod ≡ l.acmod
  pub low : shape.lfe ≡ l.lfe
  pub width : shape.bw ≡ bandwidth o l
  pub coupled : shape.couple ≡ couple
  pub size : shape.words ≡ words

-- ---- rates

-- the bits of the cheapest assignment at offset 0, at which there are no mantissas (A/52 7.2.2.7), with this coupling
abbrev pub cheapest_bits : Options → Layout → Option (ℕ × ℕ) → Parts
cheapest_bits o l couple = parts_of l.acmod l.lfe (bandwidth o l) couple (cheapest_words l.acmod l.lfe couple) (λ c b k. 0)

-- it fits a frame of so many words
abbrev pub CheapestFits : Options → Layout → ℕ → Option (ℕ × ℕ) → Type 0
CheapestFits o l words couple = FitIn words (cheapest_bits o l couple)

-- the rate is enough for the layout: without coupling or with it, the cheapest assignment fits the smaller frame size
abbrev pub IsEnough : Options → Layout → Type 0
IsEnough o l = CheapestFits o l (table_words o.rate l.fscod) None
    ⊎ ((range : ℕ × ℕ) × (range_of o l ≡ Some range) × CheapestFits o l (table_words o.rate l.fscod) (Some range))

-- the first part that is too large, in this order: total, front, last
abbrev pub IsFirstOver : Parts → Parts → Part → ℕ → ℕ → Type 0
IsFirstOver p rooms Total needed room = (rooms.total < p.total) × (needed ≡ p.total) × (room ≡ rooms.total)
IsFirstOver p rooms Front needed room = (p.total ≤ rooms.total) × (rooms.front < p.front) × (needed ≡ p.front) × (room ≡ rooms.front)
IsFirstOver p rooms Last needed room =
    (p.total ≤ rooms.total) × (p.front ≤ rooms.front) × (rooms.last < p.last) × (needed ≡ p.last) × (room ≡ rooms.last)

-- the rate is too low: the uncoupled shape's cheapest assignment is too large in this part
pub record IsTooLow (o : Options) (l : Layout) (part : Part) (needed room : ℕ) : Type 0 where
  pub short : IsEnough o l → ⊥
  pub first : IsFirstOver (cheapest_bits o l None) (rooms_of (table_words o.rate l.fscod)) part needed room

-- why there is no encoder
abbrev pub IsNewFault : Options → Layout → NewFault → Type 0
IsNewFault o l (RateTooLow part needed room) = IsTooLow o l part needed room
IsNewFault o l NoMemory = Unit {0}
