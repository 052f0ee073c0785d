-- What an encoder keeps.
use Rattle.std.specs.Prelude.{ℕ, ◌^◌, ◌<◌, [], slice_index_or}
use Rattle.ac_base.specs.Sigma.{Within}
use Rattle.ac_words.specs.Lawful.{AreOptions}
use Rattle.ac_enc.specs.Encoding.{Encoding}
use Rattle.ac_enc.specs.Layout.{channels_in, IsEnough}
use Rattle.ac_enc.specs.Sounds.{layout_in}
use Rattle.ac_enc.specs.declared.state.State.{State}
use Rattle.ac_enc.specs.declared.encoder.Encoder.TheInside.{Inside}

-- what contracts see of it
abbrev pub encoding_in : State → Encoding
encoding_in a = record { options = a.options; layout = layout_in a.sound; frames = a.frames; last = a.last }

-- the options are lawful, their rate is enough for the layout, and the last samples have 24 bits
pub record IsState (a : State) : Type 0 where
  pub options : AreOptions a.options
  pub enough : IsEnough a.options (layout_in a.sound)
  pub last : (c : ℕ) → c < channels_in (layout_in a.sound) → Within (2 ^ 23) 256 (slice_index_or a.last c [])

abbrev pub encoding_of : Inside → Encoding
encoding_of a = encoding_in a.state.value

abbrev pub IsEncoder : Inside → Type 0
IsEncoder a = IsState a.state.value
