-- A generated sound, encoded and decoded again: all of it this project's own, over the frames of A/52 5.3 and the sound that is read of
-- them (A/52 7.9.4).
use Rattle.std.specs.Prelude.{◌≡◌, ◌⊎◌, ℕ, zero, suc, ◌+◌, ◌*◌, ◌<◌, List, [], ◌∷◌, ◌++◌, length, take, codes, decimal, false, None, unsigned_abs}
use Rattle.ac_base.specs.Sigma.{sum_below}
use Rattle.ac_enc.specs.Frame.{IsFrame}
use Rattle.ac_enc.specs.Layout.{Layout}
use Rattle.ac_encode.specs.Sound.{Sound}
use Rattle.ac_encode.specs.Stream.{places}
use Rattle.ac_dec.specs.Sound.{sound_of}
use Rattle.ac_io.specs.Outside.{Adds}
use Rattle.ac_noise.specs.Noise.{noise_at, sample_count}
use Rattle.ac_plan.specs.declared.answer.Mark.{Mark}
use Rattle.ac_plan.specs.declared.answer.Mark.TheVariants.{Best, Bounded}
use Rattle.ac_plan.specs.declared.answer.Plan.{Plan}
use Rattle.ac_record.specs.Frames.{FrameCodes}
use Rattle.ac_record.specs.Readings.{IsReading}
use Rattle.ac_status.specs.declared.status.Status.{Status}
use Rattle.ac_status.specs.declared.status.Status.TheVariants as statuses
use Rattle.ac_words.specs.declared.meaning.Couple.TheVariants.{Auto}
use Rattle.ac_words.specs.declared.meaning.Options.{Options}
use Rattle.ac_world.specs.World.{Sinks}

-- ---- the sound

-- 192 kbit/s, and what the command encode takes where nothing is asked
abbrev pub synth_options : Options
synth_options = record { rate = 192; nodes = 20000; bw = None; couple = Auto }

-- two channels at 48 kHz (A/52 5.4.1.3, 5.4.2.3)
abbrev pub synth_layout : Layout
synth_layout = record { fscod = 0; acmod = 2; lfe = false }

-- the generated sound of this seed that fills so many frames: 256 places before it are 0
abbrev pub generated : ℕ → ℕ → Sound
generated seed frames = record {
  layout = synth_layout;
  count = sample_count frames;
  sample = noise_at seed frames;
}

-- ---- the frames

-- 1 where the mark of a plan is of this kind
abbrev pub best_count : Mark → ℕ
best_count Best = 1
best_count (Bounded upper) = 0

abbrev pub bounded_count : Mark → ℕ
bounded_count Best = 0
bounded_count (Bounded upper) = 1

-- frame k of the sound, by a lawful plan, and what is read of it
pub record IsMadeFrame (seed frames k : ℕ) (plan : Plan) (frame : List ℕ) (g : FrameCodes) : Type 0 where
  pub is_frame : IsFrame synth_options synth_layout k (places (generated seed frames) k) plan frame
  pub reading : IsReading frame g

-- the first k frames of the sound, one after the other, their readings, and the numbers of those whose plan is the best and of those
-- whose plan has a bound
unfoldable pub IsMade : ℕ → ℕ → ℕ → List ℕ → List FrameCodes → ℕ → ℕ → Type 0
IsMade seed frames zero stream gs best bounded = (stream ≡ []) × (gs ≡ []) × (best ≡ 0) × (bounded ≡ 0)
IsMade seed frames (suc k) stream gs best bounded =
    (front frame : List ℕ) × (before : List FrameCodes) × (g : FrameCodes) × (plan : Plan) × (b u : ℕ)
    × IsMade seed frames k front before b u × IsMadeFrame seed frames k plan frame g
    × (stream ≡ front ++ frame) × (gs ≡ before ++ g ∷ []) × (best ≡ b + best_count plan.mark) × (bounded ≡ u + bounded_count plan.mark)

-- the sum of the magnitudes of all samples that are decoded of these frames: two channels, six blocks a frame
unfoldable pub sum_of : List FrameCodes → ℕ
sum_of gs = sum_below 2 (λ c. sum_below (6 * length gs) (λ j. sum_below 256 (λ t. unsigned_abs (sound_of gs c j t))))

-- `synth frames M best X bounded Y sum V`: the number of frames, of the two kinds of plans, and the sum
abbrev pub synth_line : ℕ → ℕ → ℕ → ℕ → List ℕ
synth_line frames best bounded total =
    codes "synth frames " ++ decimal frames ++ codes " best " ++ decimal best ++ codes " bounded " ++ decimal bounded ++ codes " sum "
    ++ decimal total ++ codes "\n"

-- ---- what synth leaves, by its answer

-- all frames were added to the output, and their line to the report
pub record IsGenerated (seed frames : ℕ) (old new : Sinks) : Type 0 where
  pub stream : List ℕ
  pub gs : List FrameCodes
  pub best : ℕ
  pub bounded : ℕ
  pub made : IsMade seed frames frames stream gs best bounded
  pub all : best + bounded ≡ frames
  pub output : Adds old.output.bytes new.output.bytes stream
  pub report : Adds old.report.bytes new.report.bytes (synth_line frames best bounded (sum_of gs))

-- the output failed: k whole frames were added, and a front of the next, and nothing to the report
pub record StopsInFrames (seed frames : ℕ) (old new : Sinks) : Type 0 where
  pub count : ℕ
  pub fewer : count < frames
  pub stream : List ℕ
  pub gs : List FrameCodes
  pub best : ℕ
  pub bounded : ℕ
  pub made : IsMade seed frames count stream gs best bounded
  pub plan : Plan
  pub frame : List ℕ
  pub is_frame : IsFrame synth_options synth_layout count (places (generated seed frames) count) plan frame
  pub part : ℕ
  pub output : Adds old.output.bytes new.output.bytes (stream ++ take part frame)
  pub report : new.report ≡ old.report

-- the report failed: all frames were added to the output, and a front of their line to the report
pub record StopsInLine (seed frames : ℕ) (old new : Sinks) : Type 0 where
  pub stream : List ℕ
  pub gs : List FrameCodes
  pub best : ℕ
  pub bounded : ℕ
  pub made : IsMade seed frames frames stream gs best bounded
  pub all : best + bounded ≡ frames
  pub output : Adds old.output.bytes new.output.bytes stream
  pub part : ℕ
  pub report : Adds old.report.bytes new.report.bytes (take part (synth_line frames best bounded (sum_of gs)))

abbrev pub SynthLeaves : ℕ → ℕ → Status → Sinks → Sinks → Type 0
SynthLeaves seed frames statuses.Ok old new = IsGenerated seed frames old new
SynthLeaves seed frames statuses.Usage old new = ⊥
SynthLeaves seed frames (statuses.BadWav kind place) old new = ⊥
SynthLeaves seed frames (statuses.RateTooLow part needed room) old new = ⊥
SynthLeaves seed frames (statuses.BadStream frame fault) old new = ⊥
SynthLeaves seed frames statuses.ReadFault old new = ⊥
SynthLeaves seed frames statuses.WriteFault old new = StopsInFrames seed frames old new ⊎ StopsInLine seed frames old new
SynthLeaves seed frames statuses.NoMemory old new = new ≡ old
SynthLeaves seed frames (statuses.TooLong most) old new = ⊥
