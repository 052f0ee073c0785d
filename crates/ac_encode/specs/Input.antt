-- Which inputs are encoded, and why others are refused: all of it this project's own.
use Rattle.std.specs.Prelude.{ℕ, ◌+◌, ◌*◌, ◌≤◌, min, List}
use Rattle.ac_base.specs.declared.sizes.Part.{Part}
use Rattle.ac_enc.specs.Layout.{layout_of, IsEnough, IsTooLow}
use Rattle.ac_riff.specs.declared.fault.WavKind.{WavKind}
use Rattle.ac_riff.specs.declared.head.WavHead.{WavHead}
use Rattle.ac_riff.specs.Form.{IsHead}
use Rattle.ac_wav.specs.Samples.{align_of, data_length}
use Rattle.ac_wav.specs.Whole.{EndsWithin, RefusedWithin, NeedsMore}
use Rattle.ac_words.specs.declared.meaning.Options.{Options}
use Rattle.ac_world.specs.Limit.{limit}

-- the rate that is asked for is enough for the layout of this head
abbrev pub Suits : Options → WavHead → Type 0
Suits o head = IsEnough o (layout_of head)

-- the input begins with a head that the rate is too low for
pub record IsUnsuited (o : Options) (bytes : List ℕ) (head : WavHead) : Type 0 where
  pub begins : IsHead bytes head
  pub within : head.taken ≤ limit
  pub unsuited : Suits o head → ⊥

-- the input begins with a head that the rate is enough for
pub record IsBegun (o : Options) (bytes : List ℕ) (head : WavHead) : Type 0 where
  pub begins : IsHead bytes head
  pub within : head.taken ≤ limit
  pub suits : Suits o head

-- the input is a WAV that the rate is enough for, and its data end within the limit
pub record IsInput (o : Options) (bytes : List ℕ) (head : WavHead) : Type 0 where
  pub wav : EndsWithin bytes head limit
  pub suits : Suits o head

-- no head that the rate is too low for stands before the refusal of the bytes
abbrev pub HasNoUnsuited : Options → List ℕ → Type 0
HasNoUnsuited o bytes = (head : WavHead) → IsUnsuited o bytes head → ⊥

-- why an input is refused, and at which place
abbrev pub IsRefused : Options → List ℕ → WavKind → ℕ → Type 0
IsRefused o bytes kind place = RefusedWithin bytes kind place limit × HasNoUnsuited o bytes

-- the byte behind the limit is needed, and there
abbrev pub IsTooLong : Options → List ℕ → Type 0
IsTooLong o bytes = NeedsMore bytes limit × HasNoUnsuited o bytes

-- the rate is too low for the input: the head that it begins with has a layout of which this part of the cheapest frame is too large
pub record IsRateTooLow (o : Options) (bytes : List ℕ) (part : Part) (needed room : ℕ) : Type 0 where
  pub head : WavHead
  pub begins : IsHead bytes head
  pub within : head.taken ≤ limit
  pub low : IsTooLow o (layout_of head) part needed room

-- ---- how much of it was taken

-- the place behind the samples of the first k frames, or behind the data
abbrev pub place_behind : WavHead → List ℕ → ℕ → ℕ
place_behind head bytes k = head.taken + min (1536 * k * align_of head) (data_length head bytes)
