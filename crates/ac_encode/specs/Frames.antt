-- What the frames of a sound leave in the output and the report: this project's own rules, over the sync frames of A/52 5.3.
use Rattle.std.specs.Prelude.{◌≡◌, ℕ, ◌+◌, ◌*◌, ◌^◌, ◌<◌, ◌≤◌, List, [], length, slice_index_or, Result, Ok, Err, ℤ}
use Rattle.ac_base.specs.Sigma.{Lists, Within}
use Rattle.ac_enc.specs.Encoding.{Encoding}
use Rattle.ac_enc.specs.Layout.{Layout, channels_in}
use Rattle.ac_io.specs.Outside.{Adds}
use Rattle.ac_words.specs.declared.meaning.Options.{Options}
use Rattle.ac_encode.specs.Sound.{Sound, Continues}
use Rattle.ac_encode.specs.Stream.{places, IsFrameAt, IsStream}
use Rattle.ac_world.specs.Emits.{Emits}
use Rattle.ac_world.specs.World.{Sinks}
use Rattle.ac_world.specs.declared.writing.Broken.{Broken}

-- ---- one frame

-- what frame i leaves: it and its line were written, or fronts of them
pub record FrameLeaves (o : Options) (s : Sound) (i : ℕ) (result : Result (Unit {0}) Broken) (old new : Sinks) : Type 0 where
  pub frame : List ℕ
  pub line : List ℕ
  pub is_frame : IsFrameAt o s i frame line
  pub emits : Emits frame line result old new

-- the 256 places of channel c before those of frame i
abbrev pub IsLast : Sound → ℕ → ℕ → List ℤ → Type 0
IsLast s c i last = Lists 256 (places s i c) last

-- the 1,536 samples of channel c in frame i
abbrev pub IsOwn : Sound → ℕ → ℕ → List ℤ → Type 0
IsOwn s c i row = Lists 1536 (λ t. s.sample c (1536 * i + t)) row

-- those of each channel
abbrev pub AreLast : Sound → ℕ → List (List ℤ) → Type 0
AreLast s i lasts = (c : ℕ) → c < channels_in s.layout → IsLast s c i (slice_index_or lasts c [])

abbrev pub AreOwn : Sound → ℕ → List (List ℤ) → Type 0
AreOwn s i rows = (c : ℕ) → c < channels_in s.layout → IsOwn s c i (slice_index_or rows c [])

-- the samples of each channel have 24 bits
abbrev pub RowsFit : Layout → List (List ℤ) → Type 0
RowsFit l rows = (c : ℕ) → c < channels_in l → Within (2 ^ 23) 1536 (slice_index_or rows c [])

-- an encoder of these options and this layout, before frame i
pub record StandsAt (o : Options) (l : Layout) (i : ℕ) (e : Encoding) : Type 0 where
  pub options : e.options ≡ o
  pub layout_is : e.layout ≡ l
  pub number : e.frames ≡ i
  pub six : channels_in l ≤ 6
  pub long : (c : ℕ) → c < channels_in l → length (slice_index_or e.last c []) ≡ 256

-- ---- the frames

-- the first k frames of the sound, and their lines, were added
pub record Frames (o : Options) (s : Sound) (k : ℕ) (old new : Sinks) : Type 0 where
  pub stream : List ℕ
  pub lines : List ℕ
  pub is_stream : IsStream o s k stream lines
  pub output : Adds old.output.bytes new.output.bytes stream
  pub report : Adds old.report.bytes new.report.bytes lines

-- all `count` frames, or the first k and a front of the next; the first `full` were there before
abbrev pub FramesLeave : Options → Sound → ℕ → ℕ → Result (Unit {0}) Broken → Sinks → Sinks → Type 0
FramesLeave o s full count (Ok _) old new = Frames o s count old new
FramesLeave o s full count (Err broken) old new = (k : ℕ) × (full ≤ k) × (k < count) × ((between : Sinks)
    × Frames o s k old between × FrameLeaves o s k (Err broken) between new)

-- ---- the frames of every sound that continues what was read

-- the first k frames were added of every sound that continues the samples of these frames
pub record Added (o : Options) (x : Sound) (k : ℕ) (old new : Sinks) : Type 0 where
  pub stream : List ℕ
  pub lines : List ℕ
  pub are : (s : Sound) → Continues x (1536 * k) s → IsStream o s k stream lines
  pub output : Adds old.output.bytes new.output.bytes stream
  pub report : Adds old.report.bytes new.report.bytes lines

-- the first k frames were added so, and a front of the next or of its line
pub record AddedFront (o : Options) (x : Sound) (broken : Broken) (old new : Sinks) : Type 0 where
  pub count : ℕ
  pub between : Sinks
  pub added : Added o x count old between
  pub frame : List ℕ
  pub line : List ℕ
  pub is_frame : (s : Sound) → Continues x (1536 * (count + 1)) s → IsFrameAt o s count frame line
  pub emits : Emits frame line (Err broken) between new
