-- The stream of a sound, which is sync frames one after the other (A/52 5.1), and its report.
use Rattle.std.specs.Prelude.{◌≡◌, ℕ, zero, suc, ◌+◌, ◌*◌, ◌<◌, ◌≤◌, List, [], ◌++◌, length, false}
use Rattle.ac_base.specs.Rates.{IsRate}
use Rattle.ac_base.specs.Sizes.{frame_words_of}
use Rattle.ac_enc.specs.Frame.{Places, IsFrame}
use Rattle.ac_enc.specs.Layout.{Layout, channels_in}
use Rattle.ac_plan.specs.declared.answer.Plan.{Plan}
use Rattle.ac_plan.specs.declared.answer.Mark.TheVariants.{Best}
use Rattle.ac_record.specs.Laws.{AreBytes}
use Rattle.ac_words.specs.declared.meaning.Options.{Options}
use Rattle.ac_encode.specs.Lines.{frame_line}
use Rattle.ac_encode.specs.Sound.{Sound, sound_at}

-- the places of each channel that frame i transforms (A/52 8.2.3: each block with the 256 before it): the 256 before its own, and
-- its own 1,536
abbrev pub places : Sound → ℕ → Places
places s i c p = sound_at s c (1536 * i + p)

-- frame i of the sound, of all its channels, by a lawful plan, which its line tells
pub record IsFrameAt (o : Options) (s : Sound) (i : ℕ) (frame line : List ℕ) : Type 0 where
  pub plan : Plan
  pub is_frame : IsFrame o s.layout i (places s i) plan frame
  pub is_line : line ≡ frame_line i (length frame) plan

-- the first k frames, one after the other, and their lines
unfoldable pub IsStream : Options → Sound → ℕ → List ℕ → List ℕ → Type 0
IsStream o s zero stream lines = (stream ≡ []) × (lines ≡ [])
IsStream o s (suc k) stream lines = (front frame said line : List ℕ)
    × IsStream o s k front said × IsFrameAt o s k frame line × (stream ≡ front ++ frame) × (lines ≡ said ++ line)

-- the bytes of frame i: its 16-bit words by A/52 Table 5.18; which of the two sizes it has at 44.1 kHz is this project's own
abbrev pub frame_size : Options → Sound → ℕ → ℕ
frame_size o s i = 2 * frame_words_of o.rate s.layout.fscod i

-- the bytes of the first k frames
unfoldable pub stream_size : Options → Sound → ℕ → ℕ
stream_size o s zero = 0
stream_size o s (suc k) = stream_size o s k + frame_size o s k

-- ---- what is known of each frame

-- the frame depends on the places that it transforms alone, of the channels of the sound
abbrev pub FramesDepend : Type 0
FramesDepend = (o : Options) (l : Layout) (i : ℕ) (x y : Places) (plan : Plan) (frame : List ℕ)
    → ((c p : ℕ) → c < channels_in l → p < 1792 → x c p ≡ y c p) → IsFrame o l i x plan frame → IsFrame o l i y plan frame

-- its size is that of its rate
abbrev pub FramesAreSized : Type 0
FramesAreSized = (o : Options) (l : Layout) (i : ℕ) (x : Places) (plan : Plan) (frame : List ℕ) → IsRate o.rate → l.fscod ≤ 2
    → IsFrame o l i x plan frame → length frame ≡ 2 * frame_words_of o.rate l.fscod i

-- by one plan it is one list of bytes
abbrev pub FramesAreOne : Type 0
FramesAreOne = (o : Options) (l : Layout) (i : ℕ) (x : Places) (plan : Plan) (f g : List ℕ) → IsRate o.rate → l.fscod ≤ 2
    → AreBytes f → AreBytes g → IsFrame o l i x plan f → IsFrame o l i x plan g → f ≡ g

-- of one channel its plan is the best
abbrev pub MonoIsBest : Type 0
MonoIsBest = (o : Options) (l : Layout) (i : ℕ) (x : Places) (plan : Plan) (frame : List ℕ) → l.acmod ≡ 1 → l.lfe ≡ false
    → IsFrame o l i x plan frame → plan.mark ≡ Best
