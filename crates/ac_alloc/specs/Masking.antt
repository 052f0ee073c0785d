-- The masking curve of a coded channel (A/52 7.2.2.5).
use Rattle.std.specs.Prelude.{◌≡◌, ℕ, ◌/◌, ◌-◌, ◌<◌, ◌≤◌, ℤ, pos, negsuc, ◌+ℤ◌, ◌≤ℤ◌, unsigned_abs, List, slice_index, slice_index_or, if◌then◌else◌, nat_lt}
use Rattle.std.specs.Int.{int_max}
use Rattle.ac_base.specs.declared.spans.Span.{Span}
use Rattle.ac_base.specs.Shape.{IsSpan}
use Rattle.ac_base.specs.Allocation.{bands, masktab_list, hth_list}
use Rattle.ac_alloc.specs.declared.params.Params.{Params}
use Rattle.ac_alloc.specs.declared.mask.Mask.{Mask}
use Rattle.ac_alloc.specs.Codes.{knee, floor_of}
use Rattle.ac_alloc.specs.Integration.{bndpsd}
use Rattle.ac_alloc.specs.Excitation.{excite_by}

-- the first and the last band of a span (A/52 Table 7.13)
abbrev pub first_band : Span → ℕ
first_band s = slice_index masktab_list s.start

abbrev pub last_band : Span → ℕ
last_band s = slice_index masktab_list (s.end - 1)

-- of one band (A/52 7.2.2.5): where its density is below the knee the excitation grows; the mask is at least the hearing threshold
abbrev pub masked : ℤ → ℕ → ℕ → ℕ → ℤ
masked excite knee bndpsd threshold =
    int_max (if nat_lt bndpsd knee then excite +ℤ pos ((knee - bndpsd) / 4) else excite) (pos threshold)

-- the mask of band b (A/52 7.2.2.2 to 7.2.2.5)
abbrev pub mask : Params → Span → List ℕ → ℕ → ℤ
mask p s exps b =
    masked
    (excite_by s.lead p (first_band s) (bndpsd s.start s.end exps) b)
    (knee p)
    (bndpsd s.start s.end exps b)
    (slice_index (hth_list p.fscod) b)

-- how great masks and floors are: bounds that follow, which the standard doesn't state
abbrev pub most_level : ℕ
most_level = 5120

abbrev pub IsLevel : ℤ → Type 0
IsLevel m = (pos 0 ≤ℤ m) × (unsigned_abs m ≤ most_level)

abbrev pub IsFloor : ℤ → Type 0
IsFloor f = (negsuc 2047 ≤ℤ f) × (f ≤ℤ pos 752)

-- the masks of a coded channel's bands, and the floor under them
abbrev pub IsMaskOf : Params → Span → List ℕ → Mask → Type 0
IsMaskOf p s exps m =
    ((b : ℕ) → first_band s ≤ b → b ≤ last_band s → slice_index_or m.m b (pos 0) ≡ mask p s exps b) × (m.floor ≡ floor_of p)

-- the mask of each band of a coded channel is a level
abbrev pub MasksAreLevels : Type 0
MasksAreLevels = (p : Params) (s : Span) (exps : List ℕ) (b : ℕ) → IsSpan s → b < bands → IsLevel (mask p s exps b)

-- and its floor is a floor
abbrev pub FloorsAreFloors : Type 0
FloorsAreFloors = (p : Params) → IsFloor (floor_of p)

abbrev pub IsMask : Mask → Type 0
IsMask mask = ((b : ℕ) → IsLevel (slice_index_or mask.m b (pos 0))) × IsFloor mask.floor
