-- The sizes of frames, in words of 16 bits, and the bits that their parts have room for (A/52 5.4.1.2, 5.4.1.4, 7.10).
use Rattle.std.specs.Prelude.{ℕ, ◌+◌, ◌-◌, ◌*◌, ◌/◌, ◌%◌, nat_eq, if◌then◌else◌, slice_index}
use Rattle.ac_base.specs.Rates.{rates}

-- the words of the smallest and of the largest frame (A/52 Table 5.18)
abbrev pub least_words : ℕ
least_words = 64

abbrev pub most_words : ℕ
most_words = 1920

-- the bits with which each frame ends: auxdatae, crcrsv and crc2 (A/52 5.3.4, 5.3.5)
abbrev pub tail_bits : ℕ
tail_bits = 18

-- the bits that a skip field may leave over, since its bytes are whole (A/52 5.4.3.60)
abbrev pub skip_spare : ℕ
skip_spare = 8

-- at 44.1 kHz: the words of the first n frames, where 1,536 samples take 320 / 147 words for each kbit/s; that the sizes alternate so is
-- this project's profile
abbrev pub words_before : ℕ → ℕ → ℕ
words_before rate n = 320 * rate * n / 147

-- the words of a frame, by rate in kbit/s, fscod and the number of the frame: one of the sizes of A/52 Table 5.18, chosen by this project's
-- profile
abbrev pub frame_words_of : ℕ → ℕ → ℕ → ℕ
frame_words_of rate fscod frame =
    if nat_eq fscod 0 then 2 * rate
    else if nat_eq fscod 1 then words_before rate (frame + 1) - words_before rate frame
    else 3 * rate

-- the words of a frame with an even frmsizecod; at 44.1 kHz an odd one has one word more (A/52 Table 5.18)
abbrev pub table_words : ℕ → ℕ → ℕ
table_words rate fscod =
    if nat_eq fscod 0 then 2 * rate
    else if nat_eq fscod 1 then 320 * rate / 147
    else 3 * rate

-- the words of a frame by fscod and frmsizecod, from 0 to 37 (A/52 Table 5.18)
abbrev pub code_words : ℕ → ℕ → ℕ
code_words fscod frmsizecod =
    table_words (slice_index rates (frmsizecod / 2)) fscod + (if nat_eq fscod 1 then frmsizecod % 2 else 0)

-- the words that crc1 covers, syncword and crc1 among them: five eighths of the frame (A/52 5.4.1.2, 7.10.1)
abbrev pub front_words_of : ℕ → ℕ
front_words_of words = words / 2 + words / 8

-- the bits up to the end of those words: blocks 0 and 1 end in them (A/52 7.10.1; the rule as it stands is this project's profile)
abbrev pub front_room : ℕ → ℕ
front_room words = 16 * front_words_of words

-- the bits behind them: what follows the exponents of block 5 fits in them (this project's profile)
abbrev pub end_room : ℕ → ℕ
end_room words = 16 * words - front_room words
