-- The sound of up to six channels, and the places of it that are transformed.
use Rattle.std.specs.Prelude.{◌≡◌, ℕ, ◌+◌, ◌-◌, ◌/◌, ◌<◌, ◌==◌, nat_lt, if◌then◌else◌, List, ℤ, pos}
use Rattle.ac_enc.specs.Layout.{Layout, layout_of}
use Rattle.ac_riff.specs.declared.head.WavHead.{WavHead}
use Rattle.ac_wav.specs.Samples.{sample_count, sample_at}

-- its sampling rate and its channels, its number of samples of each channel, and sample j of channel c in coding order, of 24 bits
-- and 0 behind the last
pub record Sound : Type 0 where
  pub layout : Layout
  pub count : ℕ
  pub sample : ℕ → ℕ → ℤ

-- that of a WAV with this head
abbrev pub sound_of : WavHead → List ℕ → Sound
sound_of head bytes = record {
  layout = layout_of head;
  count = sample_count head bytes;
  sample = sample_at head bytes;
}

-- the other sound has the rate and the layout of this, and its first n samples of each channel
pub record Continues (x : Sound) (n : ℕ) (y : Sound) : Type 0 where
  pub layout : y.layout ≡ x.layout
  pub samples : (c j : ℕ) → j < n → y.sample c j ≡ x.sample c j

-- place p of channel c that is transformed: 256 zeros, this project's own choice, and then the samples
unfoldable pub sound_at : Sound → ℕ → ℕ → ℤ
sound_at s c p = if nat_lt p 256 then pos 0 else s.sample c (p - 256)

-- the number of frames for n samples, this project's own choice: each has the 1,536 places of six blocks (A/52 5.3), and
-- the last sample stands in two transforms
abbrev pub frame_count : ℕ → ℕ
frame_count n = if n == 0 then 0 else (n + 256 + 1535) / 1536

-- the number of frames of a sound
abbrev pub frames_of : Sound → ℕ
frames_of s = frame_count s.count
