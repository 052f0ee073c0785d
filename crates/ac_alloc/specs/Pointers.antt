-- The bit allocation pointers of bins by the masks of their bands (A/52 7.2.2.7), and that they rise with the offset.
use Rattle.std.specs.Prelude.{◌≡◌, ℕ, ◌*◌, ◌/◌, ◌<◌, ◌≤◌, min, ℤ, pos, negsuc, List, ◌+ℤ◌, ◌-ℤ◌, slice_index, slice_index_or, bit_and, Bool, if◌then◌else◌}
use Rattle.std.specs.Int.{int_max, int_min}
use Rattle.ac_base.specs.declared.spans.Span.{Span}
use Rattle.ac_base.specs.Shape.{IsSpan}
use Rattle.ac_base.specs.Spans.{IsIn}
use Rattle.ac_base.specs.Allocation.{baptab_list, masktab_list}
use Rattle.ac_alloc.specs.declared.params.Params.{Params}
use Rattle.ac_alloc.specs.Codes.{floor_of}
use Rattle.ac_alloc.specs.Integration.{psd}
use Rattle.ac_alloc.specs.declared.mask.Mask.{Mask}
use Rattle.ac_alloc.specs.Masking.{IsLevel, IsFloor, mask}

-- a number, and 0 for one below 0: how A/52 7.2.2.7 keeps both a mask less the floor and an address from falling below 0
abbrev pub natural : ℤ → ℕ
natural (pos n) = n
natural (negsuc n) = 0

-- the greatest offset, as csnroffst has 6 bits and fsnroffst 4 (A/52 5.4.3.37, 5.4.3.40)
abbrev pub most_offset : ℕ
most_offset = 1023

-- snroffset: 4 times 16 (csnroffst - 15) + fsnroffst, where t is 16 csnroffst + fsnroffst (A/52 7.2.2.1)
abbrev pub snr_offset : ℕ → ℤ
snr_offset t = pos (4 * t) -ℤ pos 960

-- what stands of a mask above the offset and the floor, in steps of 32, on the floor (A/52 7.2.2.7)
abbrev pub level : ℤ → ℤ → ℕ → ℤ
level mask floor t = pos (bit_and (natural (mask -ℤ snr_offset t -ℤ floor)) 0x1fe0) +ℤ floor

-- the nearest level from -2048 to 3072: densities don't tell lower ones apart, nor higher ones (this project's own, for the code)
abbrev pub kept : ℤ → ℤ
kept level = int_max (negsuc 2047) (int_min level (pos 3072))

-- a bin's place in the table of pointers: how far its density stands above the level, in steps of 32, from 0 to 63 (A/52 7.2.2.7)
abbrev pub address : ℤ → ℕ → ℕ
address level psd = min (natural (pos psd -ℤ level) / 32) 63

-- the pointer at that place (A/52 Table 7.16)
abbrev pub bap_of : ℤ → ℕ → ℕ
bap_of level psd = slice_index baptab_list (address level psd)

-- the pointer by a mask, a floor and an offset (A/52 7.2.2.7)
abbrev pub bap : ℤ → ℤ → ℕ → ℕ → ℕ
bap mask floor psd t = bap_of (level mask floor t) psd

-- of bin k under the masks of bands (A/52 7.2.2.7)
abbrev pub bap_under : Mask → List ℕ → ℕ → ℕ → ℕ
bap_under m exps k t = bap (slice_index_or m.m (slice_index masktab_list k) (pos 0)) m.floor (psd exps k) t

-- of bin k of a coded channel (A/52 7.2.2)
abbrev pub bap_at : Params → Span → List ℕ → ℕ → ℕ → ℕ
bap_at p s exps k t = bap (mask p s exps (slice_index masktab_list k)) (floor_of p) (psd exps k) t

-- the pointer of bin k of a coded channel in a block: 0 where it is silent, with all its SNR offset codes 0 (A/52 7.2.2.7)
abbrev pub pointer : Bool → Params → Span → List ℕ → ℕ → ℕ → ℕ
pointer silent p s exps k t = if silent then 0 else bap_at p s exps k t

-- a list has the pointers of a coded channel at the bins of its span
abbrev pub ArePointers : Bool → Params → Span → List ℕ → ℕ → List ℕ → Type 0
ArePointers silent p s exps t baps = (k : ℕ) → IsIn s k → slice_index baps k ≡ pointer silent p s exps k t

-- two lists of exponents agree on the bins of a span
abbrev pub Agree : Span → List ℕ → List ℕ → Type 0
Agree s exps others = (k : ℕ) → IsIn s k → slice_index exps k ≡ slice_index others k

-- ---- laws that the standard doesn't state
-- masks depend on the exponents of the bins of the span alone
abbrev pub MasksAreBySpan : Type 0
MasksAreBySpan =
    (p : Params) (s : Span) (exps others : List ℕ) (b : ℕ) → IsSpan s → Agree s exps others → mask p s exps b ≡ mask p s others b

-- so do pointers
abbrev pub PointersAreBySpan : Type 0
PointersAreBySpan =
    (silent : Bool) (p : Params) (s : Span) (exps others : List ℕ) (k t : ℕ)
    → IsSpan s → Agree s exps others → IsIn s k → pointer silent p s exps k t ≡ pointer silent p s others k t

-- a bin's pointer never falls as the offset rises, for each mask and floor
abbrev pub BapsRise : Type 0
BapsRise =
    (mask floor : ℤ) (psd t u : ℕ) → IsLevel mask → IsFloor floor → t ≤ u → bap mask floor psd t ≤ bap mask floor psd u

-- the same for the masks of each coded channel
abbrev pub BapRisesWithOffset : Type 0
BapRisesWithOffset =
    (p : Params) (s : Span) (exps : List ℕ) (k t u : ℕ)
    → IsSpan s → s.start ≤ k → k < s.end → t ≤ u → bap_at p s exps k t ≤ bap_at p s exps k u
