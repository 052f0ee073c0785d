-- With the lowest floor a bin's place in the table of pointers is a function of one number, its key less the offset: what fast searches
-- rest on. The standard doesn't state it.
use Rattle.std.specs.Prelude.{◌≡◌, ℕ, ◌+◌, ◌*◌, ◌/◌, ◌-◌, ◌≤◌, min, ℤ, pos, negsuc, ◌-ℤ◌, ◌≤ℤ◌, List, [], ◌∷◌, slice_index}
use Rattle.ac_base.specs.declared.spans.Span.{Span}
use Rattle.ac_base.specs.Allocation.{baptab_list, masktab_list}
use Rattle.ac_base.specs.Counts.{tally_of, sixths_of}
use Rattle.ac_base.specs.Floor.{floor_div}
use Rattle.ac_base.specs.Shape.{IsSpan}
use Rattle.ac_base.specs.Spans.{IsIn}
use Rattle.ac_alloc.specs.declared.params.Params.{Params}
use Rattle.ac_alloc.specs.Codes.{encoder_params, floor_of}
use Rattle.ac_alloc.specs.Masking.{IsLevel, mask}
use Rattle.ac_alloc.specs.Pointers.{natural, level, address, bap_at}

-- the lowest floor (A/52 Table 7.10)
abbrev pub lowest : ℤ
lowest = negsuc 2047

-- what tells a bin from others, by the mask of its band and its exponent, in the unit of the offset
abbrev pub key : ℤ → ℕ → ℕ
key mask exponent = 32 * exponent + (natural mask + 3008) / 4

-- 160 - floor(d / 8), clamped to 0 to 63: the place in the table of pointers of a bin whose key is d above the offset
abbrev pub place : ℤ → ℕ
place d = min (natural (pos 160 -ℤ floor_div d 8)) 63

-- its pointer (A/52 Table 7.16)
abbrev pub pointer_above : ℤ → ℕ
pointer_above d = slice_index baptab_list (place d)

-- the sixths of a bit of a mantissa with this pointer, a group's bits shared among its members (A/52 7.3.5)
abbrev pub sixths_by : ℕ → ℕ
sixths_by bap = sixths_of (tally_of (bap ∷ []))

-- what a bin whose key is d above the offset costs
abbrev pub sixths_above : ℤ → ℕ
sixths_above d = sixths_by (pointer_above d)

-- ---- laws
-- the encoder sends the lowest floor
abbrev pub LowestIsSent : Type 0
LowestIsSent = (fscod : ℕ) (rate : fscod ≤ 2) → floor_of (encoder_params fscod rate) ≡ lowest

-- key less offset is all that the place depends on
abbrev pub BapsAreByKey : Type 0
BapsAreByKey =
    (mask : ℤ) (exponent t : ℕ)
    → IsLevel mask → exponent ≤ 24 → address (level mask lowest t) (3072 - 128 * exponent) ≡ place (pos (key mask exponent) -ℤ pos t)

-- the key of bin k of a coded channel
abbrev pub key_of : Params → Span → List ℕ → ℕ → ℕ
key_of p s exps k = key (mask p s exps (slice_index masktab_list k)) (slice_index exps k)

-- the law for channels with the lowest floor, as those of the encoder
abbrev pub ChannelsAreByKey : Type 0
ChannelsAreByKey =
    (p : Params) (s : Span) (exps : List ℕ) (k t : ℕ)
    → floor_of p ≡ lowest → IsSpan s → IsIn s k → slice_index exps k ≤ 24
    → bap_at p s exps k t ≡ pointer_above (pos (key_of p s exps k) -ℤ pos t)

-- the less the key is above the offset, the more a bin costs
abbrev pub SixthsRise : Type 0
SixthsRise = (c d : ℤ) → c ≤ℤ d → sixths_above d ≤ sixths_above c
