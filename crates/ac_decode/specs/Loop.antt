-- What the loop over the frames keeps, and what one frame leaves.
use Rattle.std.specs.Option.{ForSome}
use Rattle.std.specs.Prelude.{◌≡◌, ℕ, ◌<◌, List, [], ◌∷◌, ◌++◌, length, take, drop, slice_index_or, Option, Ok, Err}
use Rattle.ac_io.specs.Within.{IsAt}
use Rattle.ac_record.specs.Laws.{AreBytes}
use Rattle.ac_record.specs.Readings.{IsReading}
use Rattle.ac_world.specs.Emits.{RoseAt}
use Rattle.ac_world.specs.World.{Sinks}
use Rattle.ac_reading.specs.Framed.{Reading}
use Rattle.ac_dec.specs.Decoding.{Decoding, kind_of}
use Rattle.ac_dec.specs.Heard.{channels_of}
use Rattle.ac_dec.specs.Sound.{IsBehind}
use Rattle.ac_decode.specs.declared.halt.Halt.{Halt}
use Rattle.ac_decode.specs.declared.halt.Halt.TheVariants as halts
use Rattle.ac_decode.specs.Stream.{size_of_all, kind_behind, Accepted, IsRefusedBehind}
use Rattle.ac_decode.specs.Leaves.{Added, FrameLeaves}

-- the channels of these frames, or all that there can be
abbrev pub channels_behind : List Reading → ℕ
channels_behind [] = 6
channels_behind (g ∷ gs) = channels_of g

-- a decoder has accepted these frames
pub record StandsBehind (gs : List Reading) (d : Decoding) : Type 0 where
  pub kind : d.kind ≡ kind_behind gs
  pub delays : (c : ℕ) → c < channels_behind gs → IsBehind gs c (slice_index_or d.delays c [])

-- the bytes begin with a frame that goes on behind these
pub record IsNext (gs : List Reading) (bytes : List ℕ) (g : Reading) : Type 0 where
  pub reading : IsReading bytes g
  pub same : ForSome (kind_behind gs) (λ k. k ≡ kind_of g)

-- frame g was decoded behind these, and was added
pub record Goes (gs : List Reading) (bytes : List ℕ) (d : Decoding) (old new : Sinks) : Type 0 where
  pub next : Reading
  pub is_next : IsNext gs bytes next
  pub stands : StandsBehind (gs ++ next ∷ []) d
  pub leaves : FrameLeaves gs next (Ok tt) old new

-- why it wasn't
abbrev pub GoesNot : List Reading → List ℕ → Halt → Sinks → Sinks → Type 0
GoesNot gs bytes (halts.Stream i fault) old new = (i ≡ length gs) × IsRefusedBehind gs bytes fault × (new ≡ old)
GoesNot gs bytes (halts.Input why) old new = ⊥
GoesNot gs bytes (halts.Sink broken) old new = (g : Reading) × IsNext gs bytes g × FrameLeaves gs g (Err broken) old new

-- these frames were accepted and added, and the source and the decoder stand behind them
pub record SoFar (bytes : List ℕ) (taken i : ℕ) (d : Decoding) (left : Option (List ℕ)) (old new : Sinks) : Type 0 where
  pub frames : List Reading
  pub accepted : Accepted bytes frames (drop taken bytes)
  pub taken_is : taken ≡ size_of_all frames
  pub number : i ≡ length frames
  pub at : IsAt bytes taken left
  pub stands : StandsBehind frames d
  pub added : Added frames old new
  pub known : AreBytes (take taken bytes)

-- a fault of writing comes only where the count of faults rose
abbrev pub StepRose : Halt → Sinks → Sinks → Type 0
StepRose (halts.Stream i fault) old new = Unit {0}
StepRose (halts.Input why) old new = ⊥
StepRose (halts.Sink broken) old new = RoseAt broken old new
