-- Channel masks (RIFF WAVE, extensible form), and the place in a WAV of each coded channel. The coding orders are those
-- of A/52 5.4.2.3, Table 5.8. Which masks are taken is this project's profile.
use Rattle.std.specs.Prelude.{ℕ, ◌-◌, ◌/◌, ◌%◌, ◌+◌, Bool, ◌==◌, ◌||◌, if◌then◌else◌, List, [], ◌∷◌, slice_index, slice_index_or}

-- the mask names the LFE channel (RIFF WAVE, extensible form: bit 3)
abbrev pub has_lfe : ℕ → Bool
has_lfe mask = mask / 8 % 2 == 1

-- the mask of the full-bandwidth channels
abbrev pub full_mask : ℕ → ℕ
full_mask mask = if has_lfe mask then mask - 8 else mask

-- the audio coding mode (A/52 5.4.2.3) whose full-bandwidth channels have this mask; 0 for a mask outside the profile
abbrev pub mode_of : ℕ → ℕ
mode_of full =
    if full == 0x4 || full == 0x1 then 1
    else (if full == 0x3 then 2
    else (if full == 0x7 then 3
    else (if full == 0x103 then 4
    else (if full == 0x107 then 5
    else (if full == 0x33 || full == 0x603 then 6
    else (if full == 0x37 || full == 0x607 then 7
    else 0))))))

-- acmod of a mask (A/52 5.4.2.3)
abbrev pub acmod_of : ℕ → ℕ
acmod_of mask = mode_of (full_mask mask)

-- the number of full-bandwidth channels of acmod 0 to 7 (A/52 Table 5.8; 0 stands for no mode)
abbrev pub full_count : ℕ → ℕ
full_count acmod = slice_index (0 ∷ 1 ∷ 2 ∷ 3 ∷ 3 ∷ 4 ∷ 4 ∷ 5 ∷ []) acmod

-- the number of channels, LFE included (A/52 5.4.2.7: lfeon)
abbrev pub channel_count : ℕ → Bool → ℕ
channel_count acmod lfe = full_count acmod + (if lfe then 1 else 0)

-- the first mask of each acmod, without LFE, in this project's profile
abbrev pub first_mask : ℕ → ℕ
first_mask acmod = slice_index (0 ∷ 0x4 ∷ 0x3 ∷ 0x7 ∷ 0x103 ∷ 0x107 ∷ 0x33 ∷ 0x37 ∷ []) acmod

-- the mask of 1 to 6 channels where none is stated, in this project's profile
abbrev pub default_mask : ℕ → ℕ
default_mask channels = slice_index (0 ∷ 0x4 ∷ 0x3 ∷ 0x7 ∷ 0x33 ∷ 0x37 ∷ 0x3F ∷ []) channels

-- the WAV place of each coded channel, by acmod; places past the channels are 0.
-- WAV order, by the bits of the mask: C; L R; L R C; L R S; L R C S; L R SL SR; L R C SL SR.
-- coding order (A/52 Table 5.8): C; L R; L C R; L R S; L C R S; L R SL SR; L C R SL SR.
abbrev pub plain_orders : List (List ℕ)
plain_orders =
    (0 ∷ 0 ∷ 0 ∷ 0 ∷ 0 ∷ 0 ∷ [])
    ∷ (0 ∷ 0 ∷ 0 ∷ 0 ∷ 0 ∷ 0 ∷ [])
    ∷ (0 ∷ 1 ∷ 0 ∷ 0 ∷ 0 ∷ 0 ∷ [])
    ∷ (0 ∷ 2 ∷ 1 ∷ 0 ∷ 0 ∷ 0 ∷ [])
    ∷ (0 ∷ 1 ∷ 2 ∷ 0 ∷ 0 ∷ 0 ∷ [])
    ∷ (0 ∷ 2 ∷ 1 ∷ 3 ∷ 0 ∷ 0 ∷ [])
    ∷ (0 ∷ 1 ∷ 2 ∷ 3 ∷ 0 ∷ 0 ∷ [])
    ∷ (0 ∷ 2 ∷ 1 ∷ 3 ∷ 4 ∷ 0 ∷ [])
    ∷ []

-- the same with LFE, which is coded last, and stands in a WAV behind the last of L, R, C
abbrev pub lfe_orders : List (List ℕ)
lfe_orders =
    (0 ∷ 0 ∷ 0 ∷ 0 ∷ 0 ∷ 0 ∷ [])
    ∷ (0 ∷ 1 ∷ 0 ∷ 0 ∷ 0 ∷ 0 ∷ [])
    ∷ (0 ∷ 1 ∷ 2 ∷ 0 ∷ 0 ∷ 0 ∷ [])
    ∷ (0 ∷ 2 ∷ 1 ∷ 3 ∷ 0 ∷ 0 ∷ [])
    ∷ (0 ∷ 1 ∷ 3 ∷ 2 ∷ 0 ∷ 0 ∷ [])
    ∷ (0 ∷ 2 ∷ 1 ∷ 4 ∷ 3 ∷ 0 ∷ [])
    ∷ (0 ∷ 1 ∷ 3 ∷ 4 ∷ 2 ∷ 0 ∷ [])
    ∷ (0 ∷ 2 ∷ 1 ∷ 4 ∷ 5 ∷ 3 ∷ [])
    ∷ []

-- the WAV place of each coded channel of a layout
abbrev pub order_of : ℕ → Bool → List ℕ
order_of acmod lfe = slice_index_or (if lfe then lfe_orders else plain_orders) acmod []

-- the coded channel at each WAV place: the other way round
abbrev pub plain_coded : List (List ℕ)
plain_coded =
    (0 ∷ 0 ∷ 0 ∷ 0 ∷ 0 ∷ 0 ∷ [])
    ∷ (0 ∷ 0 ∷ 0 ∷ 0 ∷ 0 ∷ 0 ∷ [])
    ∷ (0 ∷ 1 ∷ 0 ∷ 0 ∷ 0 ∷ 0 ∷ [])
    ∷ (0 ∷ 2 ∷ 1 ∷ 0 ∷ 0 ∷ 0 ∷ [])
    ∷ (0 ∷ 1 ∷ 2 ∷ 0 ∷ 0 ∷ 0 ∷ [])
    ∷ (0 ∷ 2 ∷ 1 ∷ 3 ∷ 0 ∷ 0 ∷ [])
    ∷ (0 ∷ 1 ∷ 2 ∷ 3 ∷ 0 ∷ 0 ∷ [])
    ∷ (0 ∷ 2 ∷ 1 ∷ 3 ∷ 4 ∷ 0 ∷ [])
    ∷ []

-- and with LFE
abbrev pub lfe_coded : List (List ℕ)
lfe_coded =
    (0 ∷ 0 ∷ 0 ∷ 0 ∷ 0 ∷ 0 ∷ [])
    ∷ (0 ∷ 1 ∷ 0 ∷ 0 ∷ 0 ∷ 0 ∷ [])
    ∷ (0 ∷ 1 ∷ 2 ∷ 0 ∷ 0 ∷ 0 ∷ [])
    ∷ (0 ∷ 2 ∷ 1 ∷ 3 ∷ 0 ∷ 0 ∷ [])
    ∷ (0 ∷ 1 ∷ 3 ∷ 2 ∷ 0 ∷ 0 ∷ [])
    ∷ (0 ∷ 2 ∷ 1 ∷ 4 ∷ 3 ∷ 0 ∷ [])
    ∷ (0 ∷ 1 ∷ 4 ∷ 2 ∷ 3 ∷ 0 ∷ [])
    ∷ (0 ∷ 2 ∷ 1 ∷ 5 ∷ 3 ∷ 4 ∷ [])
    ∷ []

-- the coded channel at each WAV place of a layout
abbrev pub coded_of : ℕ → Bool → List ℕ
coded_of acmod lfe = slice_index_or (if lfe then lfe_coded else plain_coded) acmod []
