-- The rematrixing of two channels (A/52 7.5). When a band is rematrixed is this project's own choice: where the sum or the difference
-- has less than four times the energy of the weaker channel.
use Rattle.std.specs.Prelude.{ℕ, ◌+◌, ◌*◌, ◌<◌, min, nat_lt, nat_le, nat_eq, ◌&&◌, if◌then◌else◌, Bool, false, ℤ, ◌+ℤ◌, neg_ℤ, List, [], ◌∷◌, slice_index, slice_index_or}
use Rattle.ac_base.specs.declared.shapes.Shape.{Shape}
use Rattle.ac_base.specs.Floor.{floor_div}
use Rattle.ac_base.specs.Shape.{is_stereo, rematrix_bands, span_of}
use Rattle.ac_energy.specs.Coefficients.{Coefficients, Channel}
use Rattle.ac_energy.specs.Energy.{energy_of, AreSmallIn}

-- the first bins of the bands, and the bin behind the last of the last one (A/52 Table 7.25 to 7.28)
abbrev pub band_start : ℕ → ℕ
band_start band = slice_index (13 ∷ 25 ∷ 37 ∷ 61 ∷ 253 ∷ []) band

-- the bin behind the last of a full channel, at which a band is cut: the coupling's first under coupling
abbrev pub cut_of : Shape → ℕ
cut_of shape = (span_of shape.acmod shape.bw shape.couple 0).end

-- the bin behind the last of a band
abbrev pub band_end : Shape → ℕ → ℕ
band_end shape band = min (band_start (band + 1)) (cut_of shape)

abbrev pub plus : Channel → Channel → Channel
plus l r b k = l b k +ℤ r b k

abbrev pub less : Channel → Channel → Channel
less l r b k = l b k +ℤ neg_ℤ (r b k)

-- the sum or the difference is weaker than half the amplitude of the weaker channel says
abbrev pub is_weaker : Channel → Channel → ℕ → ℕ → Bool
is_weaker l r start end =
    nat_lt (min (energy_of (plus l r) start end) (energy_of (less l r) start end)) (4 * min (energy_of l start end) (energy_of r start end))

-- whether a band is rematrixed: one of the bands of a frame with two channels (A/52 7.5.2)
abbrev pub flag_of : Shape → Coefficients → ℕ → Bool
flag_of shape x band =
    is_stereo shape.acmod && nat_lt band (rematrix_bands shape.couple) && is_weaker (x 0) (x 1) (band_start band) (band_end shape band)

-- the flags of a frame
abbrev pub flags_of : Shape → Coefficients → List Bool
flags_of shape x = flag_of shape x 0 ∷ flag_of shape x 1 ∷ flag_of shape x 2 ∷ flag_of shape x 3 ∷ []

-- the band of a bin from 13 on
abbrev pub band_at : ℕ → ℕ
band_at k = if nat_lt k 25 then 0 else if nat_lt k 37 then 1 else if nat_lt k 61 then 2 else 3

-- a bin whose band is rematrixed
abbrev pub is_rematrixed : Shape → List Bool → ℕ → Bool
is_rematrixed shape flags k = nat_le 13 k && nat_lt k (cut_of shape) && slice_index_or flags (band_at k) false

-- half of it, rounded downwards
abbrev pub half_of : ℤ → ℤ
half_of x = floor_div x 2

-- there the left channel has half the sum, and the right one half the difference
abbrev pub rematrixed_of : Shape → List Bool → Coefficients → Coefficients
rematrixed_of shape flags x c b k =
    if is_rematrixed shape flags k
    then (if nat_eq c 0 then half_of (plus (x 0) (x 1) b k) else if nat_eq c 1 then half_of (less (x 0) (x 1) b k) else x c b k)
    else x c b k

-- both channels are below 2 ^ 24 in magnitude from bin 13 up to the cut
abbrev pub AreSmallPair : Shape → Coefficients → Type 0
AreSmallPair shape x = (c : ℕ) → c < 2 → AreSmallIn (x c) 13 (cut_of shape)
