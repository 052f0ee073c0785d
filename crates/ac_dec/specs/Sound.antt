-- The samples of blocks one behind the other (A/52 7.9.4): each block's own part, over what the block before it left.
use Rattle.std.specs.Prelude.{◌≡◌, ℕ, zero, suc, ◌+◌, ◌*◌, ◌/◌, ◌%◌, ◌<◌, List, [], map, length, ℤ, pos, slice_index_or}
use Rattle.std.specs.List.{range_with_len}
use Rattle.ac_mdct.specs.Inverse.{part, sample_of}
use Rattle.ac_record.specs.Empty.{empty_codes}
use Rattle.ac_record.specs.Frames.{FrameCodes}
use Rattle.ac_dec.specs.Heard.{heard_of}

-- the coefficients of block b as a list
abbrev pub block_list : (ℕ → ℕ → ℤ) → ℕ → List ℤ
block_list x b = map (x b) (range_with_len 0 256)

-- what stands before block b at place t: before the first block the first delay, then what the block before left
unfoldable pub delay_at : List ℤ → (ℕ → List ℤ) → ℕ → ℕ → ℤ
delay_at first blocks zero t = slice_index_or first t (pos 0)
delay_at first blocks (suc b) t = part (blocks b) (t + 256)

-- sample t of block b (A/52 7.9.4.1, step 6)
abbrev pub sample_at : List ℤ → (ℕ → List ℤ) → ℕ → ℕ → ℤ
sample_at first blocks b t = sample_of (part (blocks b) t) (delay_at first blocks b t)

-- ---- the sound of frames one behind the other

-- the coefficients of block j of channel c, six blocks a frame
abbrev pub stream_block : List FrameCodes → ℕ → ℕ → List ℤ
stream_block gs c j = block_list (heard_of (slice_index_or gs (j / 6) empty_codes) c) (j % 6)

-- sample t of block j of channel c; before the first block there is silence
abbrev pub sound_of : List FrameCodes → ℕ → ℕ → ℕ → ℤ
sound_of gs c j t = sample_at [] (stream_block gs c) j t

-- a delay is what these frames leave of channel c
abbrev pub IsBehind : List FrameCodes → ℕ → List ℤ → Type 0
IsBehind gs c delay = (t : ℕ) → t < 256 → slice_index_or delay t (pos 0) ≡ delay_at [] (stream_block gs c) (6 * length gs) t
