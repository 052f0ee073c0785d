-- The codes of the bit allocation that this project's encoder sends in each frame (A/52 5.4.3.31 to 5.4.3.46). What each stands for is in
-- A/52 Tables 7.6 to 7.11; that these are sent is this project's profile. The fields of the frame and the allocation cite this place.
use Rattle.std.specs.Prelude.{ℕ}

-- the slow decay (A/52 5.4.3.31)
abbrev pub sent_sdcycod : ℕ
sent_sdcycod = 2

-- the fast decay (A/52 5.4.3.32)
abbrev pub sent_fdcycod : ℕ
sent_fdcycod = 1

-- the slow gain (A/52 5.4.3.33)
abbrev pub sent_sgaincod : ℕ
sent_sgaincod = 1

-- the knee (A/52 5.4.3.34)
abbrev pub sent_dbpbcod : ℕ
sent_dbpbcod = 3

-- the floor (A/52 5.4.3.35)
abbrev pub sent_floorcod : ℕ
sent_floorcod = 7

-- the fast gain of each coded channel (A/52 5.4.3.39, 5.4.3.41, 5.4.3.43)
abbrev pub sent_fgaincod : ℕ
sent_fgaincod = 4

-- the fast and the slow leak of the coupling channel before its first band (A/52 5.4.3.45, 5.4.3.46): the lowest
abbrev pub sent_cplfleak : ℕ
sent_cplfleak = 0

abbrev pub sent_cplsleak : ℕ
sent_cplsleak = 0
