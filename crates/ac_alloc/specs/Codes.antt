-- What the codes of the bit allocation parameters stand for (A/52 5.4.3.31 to 5.4.3.46, 7.2.2.1).
use native.Mathlib.Nat.{le-add_right}
use Rattle.std.specs.Prelude.{ℕ, ◌+◌, ◌*◌, ◌≤◌, ℤ, pos, negsuc, List, [], ◌∷◌, slice_index, slice_index_or}
use Rattle.ac_base.specs.Profile.{sent_sdcycod, sent_fdcycod, sent_sgaincod, sent_dbpbcod, sent_floorcod, sent_fgaincod, sent_cplfleak, sent_cplsleak}
use Rattle.ac_alloc.specs.declared.params.Params.{Params}

-- those that the encoder sends at a rate of sampling: this project's profile. The last nine say that each is within its field: so many below
-- the greatest code
abbrev pub encoder_params : (fscod : ℕ) → fscod ≤ 2 → Params
encoder_params fscod rate = record {
  fscod = fscod;
  sdcycod = sent_sdcycod;
  fdcycod = sent_fdcycod;
  sgaincod = sent_sgaincod;
  dbpbcod = sent_dbpbcod;
  floorcod = sent_floorcod;
  fgaincod = sent_fgaincod;
  cplfleak = sent_cplfleak;
  cplsleak = sent_cplsleak;
  sampling = rate;
  slow_code = le-add_right sent_sdcycod 1;
  fast_code = le-add_right sent_fdcycod 2;
  gain_code = le-add_right sent_sgaincod 2;
  knee_code = le-add_right sent_dbpbcod 0;
  floor_code = le-add_right sent_floorcod 0;
  fast_gain_code = le-add_right sent_fgaincod 3;
  fast_leak_code = le-add_right sent_cplfleak 7;
  slow_leak_code = le-add_right sent_cplsleak 7;
}

-- by sdcycod (A/52 Table 7.6)
abbrev pub slow_decays : List ℕ
slow_decays = 0x0f ∷ 0x11 ∷ 0x13 ∷ 0x15 ∷ []

-- by fdcycod (A/52 Table 7.7)
abbrev pub fast_decays : List ℕ
fast_decays = 0x3f ∷ 0x53 ∷ 0x67 ∷ 0x7b ∷ []

-- by sgaincod (A/52 Table 7.8)
abbrev pub slow_gains : List ℕ
slow_gains = 0x540 ∷ 0x4d8 ∷ 0x478 ∷ 0x410 ∷ []

-- by dbpbcod (A/52 Table 7.9)
abbrev pub knees : List ℕ
knees = 0 ∷ 0x700 ∷ 0x900 ∷ 0xb00 ∷ []

-- by floorcod (A/52 Table 7.10)
abbrev pub floors : List ℤ
floors = pos 0x2f0 ∷ pos 0x2b0 ∷ pos 0x270 ∷ pos 0x230 ∷ pos 0x1f0 ∷ pos 0x170 ∷ pos 0x0f0 ∷ negsuc 2047 ∷ []

-- ---- of given parameters (A/52 7.2.2.1)
abbrev pub slow_decay : Params → ℕ
slow_decay p = slice_index slow_decays p.sdcycod

abbrev pub fast_decay : Params → ℕ
fast_decay p = slice_index fast_decays p.fdcycod

abbrev pub slow_gain : Params → ℕ
slow_gain p = slice_index slow_gains p.sgaincod

-- by fgaincod (A/52 Table 7.11)
abbrev pub fast_gain : Params → ℕ
fast_gain p = 128 * (p.fgaincod + 1)

abbrev pub knee : Params → ℕ
knee p = slice_index knees p.dbpbcod

abbrev pub floor_of : Params → ℤ
floor_of p = slice_index_or floors p.floorcod (pos 0)

-- the fast and the slow leak of the coupling channel before its first band (A/52 5.4.3.45, 5.4.3.46, 7.2.2.1)
abbrev pub fast_start : Params → ℕ
fast_start p = 256 * p.cplfleak + 768

abbrev pub slow_start : Params → ℕ
slow_start p = 256 * p.cplsleak + 768
