-- The sound of a generated job, which is this project's own: noise, made of a seed and a number of frames.
use Rattle.std.specs.Prelude.{ℕ, zero, suc, ◌+◌, ◌-◌, ◌*◌, ◌/◌, ◌%◌, ◌^◌, ◌==◌, ◌&&◌, nat_lt, if◌then◌else◌, ℤ, pos, ◌+ℤ◌, ◌*ℤ◌}
use Rattle.byteorder.specs.Endian.{twos_complement}
use Rattle.ac_base.specs.Floor.{floor_div}

-- ---- the numbers drawn

-- the state behind x
abbrev pub next_of : ℕ → ℕ
next_of x = (6364136223846793005 * x + 1442695040888963407) % 2 ^ 64

-- the state behind n draws, from the seed on
unfoldable pub state_at : ℕ → ℕ → ℕ
state_at seed zero = seed
state_at seed (suc n) = next_of (state_at seed n)

-- draw n, from 0 on: the top 16 bits of the state behind it, as a signed number
abbrev pub draw_at : ℕ → ℕ → ℤ
draw_at seed n = twos_complement 2 (state_at seed (n + 1) / 2 ^ 48)

-- ---- the two channels, in 16 bits

-- of two draws a and b for each sample: a / g, and (a + b) / (2 g), rounded downwards
abbrev pub left_by : ℕ → ℕ → ℕ → ℤ
left_by g seed n = floor_div (draw_at seed (2 * n)) g

abbrev pub right_by : ℕ → ℕ → ℕ → ℤ
right_by g seed n = floor_div (draw_at seed (2 * n) +ℤ draw_at seed (2 * n + 1)) (2 * g)

-- what the draws of sample n are divided by: 1, 2, 4 .. 128 in a frame of 1,536 samples after the other, and again from 1
abbrev pub step_of : ℕ → ℕ
step_of n = 2 ^ ((n / 1536) % 8)

abbrev pub left_of : ℕ → ℕ → ℤ
left_of seed n = left_by (step_of n) seed n

abbrev pub right_of : ℕ → ℕ → ℤ
right_of seed n = right_by (step_of n) seed n

-- ---- the sound

-- the number of samples of each channel: with the 256 before the first, they are so many frames (A/52 8.2.3)
abbrev pub sample_count : ℕ → ℕ
sample_count frames = 1536 * frames - 256

-- sample n of channel c in 24 bits, which is 256 times that of 16 bits, as in a WAV; 0 behind the end, and in further channels
abbrev pub noise_at : ℕ → ℕ → ℕ → ℕ → ℤ
noise_at seed frames c n =
    if nat_lt c 2 && nat_lt n (sample_count frames) then (if c == 0 then left_of seed n else right_of seed n) *ℤ pos 256 else pos 0

-- ---- what contracts see of it

-- the seed, the number of frames, and how many times 1,536 samples were given
pub record Noising : Type 0 where
  pub seed : ℕ
  pub frames : ℕ
  pub given : ℕ

-- before the first sample
abbrev pub at_first : ℕ → ℕ → Noising
at_first seed frames = record { seed = seed; frames = frames; given = 0 }

-- behind the next 1,536
abbrev pub behind : Noising → Noising
behind a = record { seed = a.seed; frames = a.frames; given = a.given + 1 }
