-- What stands before and behind each frame of a generated sound, and what the frames so far have left.
use Rattle.std.specs.Option.{ForSome}
use Rattle.std.specs.Prelude.{◌≡◌, ℕ, ◌+◌, ◌<◌, List, [], ◌∷◌, ◌++◌, Option, false, take, slice_index_or}
use Rattle.ac_enc.specs.Encoding.{Encoding}
use Rattle.ac_enc.specs.Frame.{Places, IsFrame}
use Rattle.ac_encode.specs.Frames.{StandsAt, AreLast}
use Rattle.ac_encode.specs.Sound.{Sound}
use Rattle.ac_encode.specs.Stream.{places}
use Rattle.ac_dec.specs.Decoding.{Decoding}
use Rattle.ac_dec.specs.Sound.{IsBehind}
use Rattle.ac_dec.specs.declared.kind.Kind.{Kind}
use Rattle.ac_io.specs.Outside.{Adds, AddsFront}
use Rattle.ac_noise.specs.Noise.{Noising}
use Rattle.ac_plan.specs.declared.answer.Plan.{Plan}
use Rattle.ac_record.specs.Frames.{FrameCodes}
use Rattle.ac_synth.specs.Synth.{synth_options, synth_layout, generated, IsMadeFrame, IsMade, sum_of}
use Rattle.ac_synth.specs.declared.tally.Tally.{Tally}
use Rattle.ac_synth.specs.declared.frame.Passed.{Passed}

-- ---- before and behind a frame

-- the sound that is drawn
abbrev pub sound_in : Noising → Sound
sound_in n = generated n.seed n.frames

-- so many frames were drawn and encoded
pub record StandsBefore (n : Noising) (e : Encoding) : Type 0 where
  pub encoder : StandsAt synth_options synth_layout n.given e
  pub last : AreLast (sound_in n) n.given e.last

-- fscod, acmod and lfeon of every frame
abbrev pub synth_kind : Kind
synth_kind = record { fscod = 0; acmod = 2; lfe = false }

-- the decoder has accepted no frame of another kind
abbrev pub IsOfSynth : Option Kind → Type 0
IsOfSynth kind = ForSome kind (λ k. k ≡ synth_kind)

-- both channels stand behind these frames
abbrev pub AreBehind : List FrameCodes → Decoding → Type 0
AreBehind gs d = (c : ℕ) → c < 2 → IsBehind gs c (slice_index_or d.delays c [])

-- ---- one frame

-- bytes that are some frame of these options and this layout
pub record IsSomeFrame (frame : List ℕ) : Type 0 where
  pub number : ℕ
  pub from : Places
  pub plan : Plan
  pub is : IsFrame synth_options synth_layout number from plan frame

-- the decoder went on by what is read of a frame, of which the samples have this sum
pub record IsHeardAs (g : FrameCodes) (sum : ℕ) (old new : Decoding) : Type 0 where
  pub kind : IsOfSynth new.kind
  pub behind : (gs : List FrameCodes) → AreBehind gs old → AreBehind (gs ++ g ∷ []) new
  pub adds : (gs : List FrameCodes) → AreBehind gs old → sum_of (gs ++ g ∷ []) ≡ sum_of gs + sum

-- the next frame was added, and the decoder went on by it
pub record IsPassed (n : Noising) (passed : Passed) (before after : Option (List ℕ)) (old new : Decoding) : Type 0 where
  pub plan : Plan
  pub frame : List ℕ
  pub g : FrameCodes
  pub made : IsMadeFrame n.seed n.frames n.given plan frame g
  pub mark : passed.mark ≡ plan.mark
  pub adds : Adds before after frame
  pub heard : IsHeardAs g passed.sum old new

-- a front of the next frame was added
pub record IsCut (n : Noising) (before after : Option (List ℕ)) : Type 0 where
  pub plan : Plan
  pub frame : List ℕ
  pub is_frame : IsFrame synth_options synth_layout n.given (places (sound_in n) n.given) plan frame
  pub adds : AddsFront before after frame

-- ---- the frames

-- the first k frames were added, and the decoder stands behind them
pub record AreDone (seed frames k : ℕ) (tally : Tally) (d : Decoding) (before after : Option (List ℕ)) : Type 0 where
  pub stream : List ℕ
  pub gs : List FrameCodes
  pub made : IsMade seed frames k stream gs tally.best tally.bounded
  pub sum : tally.sum ≡ sum_of gs
  pub behind : AreBehind gs d
  pub adds : Adds before after stream

-- all frames were added
pub record AllDone (seed frames : ℕ) (tally : Tally) (before after : Option (List ℕ)) : Type 0 where
  pub stream : List ℕ
  pub gs : List FrameCodes
  pub made : IsMade seed frames frames stream gs tally.best tally.bounded
  pub sum : tally.sum ≡ sum_of gs
  pub adds : Adds before after stream

-- or fewer of them, and a front of the next
pub record FewerDone (seed frames : ℕ) (before after : Option (List ℕ)) : Type 0 where
  pub count : ℕ
  pub fewer : count < frames
  pub stream : List ℕ
  pub gs : List FrameCodes
  pub best : ℕ
  pub bounded : ℕ
  pub made : IsMade seed frames count stream gs best bounded
  pub plan : Plan
  pub frame : List ℕ
  pub is_frame : IsFrame synth_options synth_layout count (places (generated seed frames) count) plan frame
  pub part : ℕ
  pub adds : Adds before after (stream ++ take part frame)
