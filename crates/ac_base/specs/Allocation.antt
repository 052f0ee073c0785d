-- The tables of the bit allocation, as values with their counts (A/52 7.2.3).
use Rattle.std.specs.Prelude.{ℕ, List, [], ◌∷◌, ◌++◌, replicate, if◌then◌else◌, ◌==◌}

-- how many bands there are (A/52 Table 7.12), and how many bins they have
abbrev pub bands : ℕ
bands = 50

abbrev pub bins : ℕ
bins = 253

-- each value as often as its count says: how the lists below are written
abbrev pub runs_of : List (ℕ × ℕ) → List ℕ
runs_of [] = []
runs_of (r ∷ rs) = replicate r.1 r.0 ++ runs_of rs

-- what a log-addition adds to the greater level (latab, A/52 Table 7.14), with 32 ones and zeros from index 210 on by this
-- project's profile
abbrev pub latab_list : List ℕ
latab_list = runs_of ((64, 1) ∷ (63, 1) ∷ (62, 1) ∷ (61, 1) ∷ (60, 1) ∷ (59, 1) ∷ (58, 1) ∷ (57, 1) ∷ (56, 1) ∷ (55, 1) ∷ (54, 1) ∷ (53, 1) ∷ (52, 2) ∷ (51, 1) ∷ (50, 1) ∷ (49, 1) ∷ (48, 1) ∷ (47, 2) ∷ (46, 1) ∷ (45, 1) ∷ (44, 2) ∷ (43, 1) ∷ (42, 1) ∷ (41, 2) ∷ (40, 1) ∷ (39, 1) ∷ (38, 2) ∷ (37, 1) ∷ (36, 2) ∷ (35, 2) ∷ (34, 1) ∷ (33, 2) ∷ (32, 2) ∷ (31, 1) ∷ (30, 2) ∷ (29, 2) ∷ (28, 2) ∷ (27, 2) ∷ (26, 2) ∷ (25, 2) ∷ (24, 2) ∷ (23, 2) ∷ (22, 2) ∷ (21, 3) ∷ (20, 2) ∷ (19, 3) ∷ (18, 3) ∷ (17, 3) ∷ (16, 3) ∷ (15, 3) ∷ (14, 3) ∷ (13, 4) ∷ (12, 4) ∷ (11, 4) ∷ (10, 5) ∷ (9, 5) ∷ (8, 6) ∷ (7, 6) ∷ (6, 8) ∷ (5, 8) ∷ (4, 11) ∷ (3, 14) ∷ (2, 19) ∷ (1, 32) ∷ (0, 46) ∷ [])

-- the first bin of each band, and the end of the last (bndtab, A/52 Table 7.12)
abbrev pub bndtab_list : List ℕ
bndtab_list = 0 ∷ 1 ∷ 2 ∷ 3 ∷ 4 ∷ 5 ∷ 6 ∷ 7 ∷ 8 ∷ 9 ∷ 10 ∷ 11 ∷ 12 ∷ 13 ∷ 14 ∷ 15 ∷ 16 ∷ 17 ∷ 18 ∷ 19 ∷ 20 ∷ 21 ∷ 22 ∷ 23 ∷ 24 ∷ 25 ∷ 26 ∷ 27 ∷ 28 ∷ 31 ∷ 34 ∷ 37 ∷ 40 ∷ 43 ∷ 46 ∷ 49 ∷ 55 ∷ 61 ∷ 67 ∷ 73 ∷ 79 ∷ 85 ∷ 97 ∷ 109 ∷ 121 ∷ 133 ∷ 157 ∷ 181 ∷ 205 ∷ 229 ∷ 253 ∷ []

-- the band of each bin (masktab, A/52 Table 7.13)
abbrev pub masktab_list : List ℕ
masktab_list = runs_of ((0, 1) ∷ (1, 1) ∷ (2, 1) ∷ (3, 1) ∷ (4, 1) ∷ (5, 1) ∷ (6, 1) ∷ (7, 1) ∷ (8, 1) ∷ (9, 1) ∷ (10, 1) ∷ (11, 1) ∷ (12, 1) ∷ (13, 1) ∷ (14, 1) ∷ (15, 1) ∷ (16, 1) ∷ (17, 1) ∷ (18, 1) ∷ (19, 1) ∷ (20, 1) ∷ (21, 1) ∷ (22, 1) ∷ (23, 1) ∷ (24, 1) ∷ (25, 1) ∷ (26, 1) ∷ (27, 1) ∷ (28, 3) ∷ (29, 3) ∷ (30, 3) ∷ (31, 3) ∷ (32, 3) ∷ (33, 3) ∷ (34, 3) ∷ (35, 6) ∷ (36, 6) ∷ (37, 6) ∷ (38, 6) ∷ (39, 6) ∷ (40, 6) ∷ (41, 12) ∷ (42, 12) ∷ (43, 12) ∷ (44, 12) ∷ (45, 24) ∷ (46, 24) ∷ (47, 24) ∷ (48, 24) ∷ (49, 24) ∷ [])

-- the hearing thresholds at 48, 44.1 and 32 kHz (hth, A/52 Table 7.15)
abbrev pub hth_48 : List ℕ
hth_48 = runs_of ((0x4d0, 2) ∷ (0x440, 1) ∷ (0x400, 1) ∷ (0x3e0, 1) ∷ (0x3c0, 1) ∷ (0x3b0, 2) ∷ (0x3a0, 5) ∷ (0x390, 3) ∷ (0x380, 2) ∷ (0x370, 2) ∷ (0x360, 2) ∷ (0x350, 2) ∷ (0x340, 2) ∷ (0x330, 1) ∷ (0x320, 1) ∷ (0x310, 1) ∷ (0x300, 1) ∷ (0x2f0, 4) ∷ (0x300, 1) ∷ (0x310, 1) ∷ (0x340, 1) ∷ (0x390, 1) ∷ (0x3e0, 1) ∷ (0x420, 1) ∷ (0x460, 1) ∷ (0x490, 1) ∷ (0x4a0, 1) ∷ (0x460, 1) ∷ (0x440, 2) ∷ (0x520, 1) ∷ (0x800, 1) ∷ (0x840, 2) ∷ [])

abbrev pub hth_44 : List ℕ
hth_44 = runs_of ((0x4f0, 2) ∷ (0x460, 1) ∷ (0x410, 1) ∷ (0x3e0, 1) ∷ (0x3d0, 1) ∷ (0x3c0, 1) ∷ (0x3b0, 2) ∷ (0x3a0, 5) ∷ (0x390, 3) ∷ (0x380, 3) ∷ (0x370, 2) ∷ (0x360, 2) ∷ (0x350, 2) ∷ (0x340, 2) ∷ (0x320, 1) ∷ (0x310, 1) ∷ (0x300, 1) ∷ (0x2f0, 4) ∷ (0x300, 1) ∷ (0x320, 1) ∷ (0x350, 1) ∷ (0x390, 1) ∷ (0x3e0, 1) ∷ (0x420, 1) ∷ (0x450, 1) ∷ (0x4a0, 1) ∷ (0x490, 1) ∷ (0x460, 1) ∷ (0x440, 1) ∷ (0x480, 1) ∷ (0x630, 1) ∷ (0x840, 2) ∷ [])

abbrev pub hth_32 : List ℕ
hth_32 = runs_of ((0x580, 2) ∷ (0x4b0, 1) ∷ (0x450, 1) ∷ (0x420, 1) ∷ (0x3f0, 1) ∷ (0x3e0, 1) ∷ (0x3d0, 1) ∷ (0x3c0, 1) ∷ (0x3b0, 3) ∷ (0x3a0, 8) ∷ (0x390, 4) ∷ (0x380, 3) ∷ (0x370, 1) ∷ (0x360, 1) ∷ (0x350, 1) ∷ (0x340, 1) ∷ (0x330, 1) ∷ (0x320, 1) ∷ (0x310, 1) ∷ (0x300, 1) ∷ (0x2f0, 3) ∷ (0x300, 1) ∷ (0x310, 1) ∷ (0x330, 1) ∷ (0x350, 1) ∷ (0x3c0, 1) ∷ (0x410, 1) ∷ (0x470, 1) ∷ (0x4a0, 1) ∷ (0x460, 1) ∷ (0x440, 1) ∷ (0x450, 1) ∷ (0x4e0, 1) ∷ [])

-- the same by fscod (A/52 5.4.1.3)
abbrev pub hth_list : ℕ → List ℕ
hth_list fscod = if fscod == 0 then hth_48 else (if fscod == 1 then hth_44 else hth_32)

-- the bit allocation pointer of an address (baptab, A/52 Table 7.16)
abbrev pub baptab_list : List ℕ
baptab_list = runs_of ((0, 1) ∷ (1, 5) ∷ (2, 2) ∷ (3, 3) ∷ (4, 2) ∷ (5, 2) ∷ (6, 4) ∷ (7, 4) ∷ (8, 4) ∷ (9, 4) ∷ (10, 4) ∷ (11, 4) ∷ (12, 4) ∷ (13, 4) ∷ (14, 8) ∷ (15, 9) ∷ [])
