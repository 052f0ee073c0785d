-- The WAV as a whole (RIFF WAVE): its head and all its data, or why it is refused, and what is known of it from the bytes up
-- to a limit. The refusals and the limit are this project's own.
use Rattle.std.specs.Prelude.{◌≡◌, ℕ, ◌+◌, ◌≤◌, ◌<◌, ◌⊎◌, List, length, take, drop, None}
use Rattle.ac_riff.specs.declared.fault.WavKind.{WavKind}
use Rattle.ac_riff.specs.declared.fault.WavKind.TheVariants.{Short, NoData}
use Rattle.ac_riff.specs.declared.head.WavHead.{WavHead}
use Rattle.ac_riff.specs.Form.{IsHead}
use Rattle.ac_riff.specs.Refusal.{Refuses}
use Rattle.ac_wav.specs.Samples.{data_length}

-- the place behind the data
abbrev pub end_of : WavHead → List ℕ → ℕ
end_of head bytes = head.taken + data_length head bytes

-- the list is a WAV: a head and all its data, and any rest
pub record IsWav (bytes : List ℕ) (head : WavHead) : Type 0 where
  pub begins : IsHead bytes head
  pub whole : end_of head bytes ≤ length bytes

-- the bytes behind the data, which aren't looked at
abbrev pub behind : WavHead → List ℕ → List ℕ
behind head bytes = drop (end_of head bytes) bytes

-- the list begins with a head, and ends inside the data that the head states
pub record HasCutData (bytes : List ℕ) : Type 0 where
  pub head : WavHead
  pub begins : IsHead bytes head
  pub cut : length bytes < end_of head bytes

-- the list is no WAV: why, and at which place. It is refused before its data begin, or its data are cut
abbrev pub RefusesWav : List ℕ → WavKind → ℕ → Type 0
RefusesWav bytes kind place = Refuses bytes kind place ⊎ ((kind ≡ Short) × (place ≡ length bytes) × HasCutData bytes)

-- the list begins with a head whose data run to the end of the input
pub record RunsOn (bytes : List ℕ) : Type 0 where
  pub head : WavHead
  pub begins : IsHead bytes head
  pub unsized : head.size ≡ None

-- byte number limit + 1 is needed to read the WAV or to refuse it, and it is there: the first `limit` bytes alone end too early,
-- or their data run to the end of the input
abbrev pub NeedsMore : List ℕ → ℕ → Type 0
NeedsMore bytes limit = (limit < length bytes)
    × (RefusesWav (take limit bytes) Short limit ⊎ (Refuses (take limit bytes) NoData limit ⊎ RunsOn (take limit bytes)))

-- the list is a WAV whose data end at the limit or before
pub record EndsWithin (bytes : List ℕ) (head : WavHead) (limit : ℕ) : Type 0 where
  pub whole : IsWav bytes head
  pub within : end_of head bytes ≤ limit

-- the list is refused, and so are its first `limit` bytes alone: the refusal needs no byte past the limit
abbrev pub RefusedWithin : List ℕ → WavKind → ℕ → ℕ → Type 0
RefusedWithin bytes kind place limit = RefusesWav bytes kind place × RefusesWav (take limit bytes) kind place
