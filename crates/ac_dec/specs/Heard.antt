-- The coefficients of a frame, from a reading of it: the values of its mantissas (A/52 7.3), coupled channels taken apart (7.4.3),
-- left and right from their half sums and half differences (7.5.3). Rounding and clamping are this project's profile.
use Rattle.std.specs.Prelude.{ℕ, ◌+◌, nat_lt, if◌then◌else◌, ℤ, take, slice_index_or}
use Rattle.ac_base.specs.Shape.{full_of, count_of}
use Rattle.ac_mant.specs.Quantiser.{value_of}
use Rattle.ac_record.specs.Empty.{empty_block}
use Rattle.ac_record.specs.Frames.{FrameCodes}
use Rattle.ac_record.specs.Readings.{cell}
use Rattle.ac_rows.specs.Blocks.{Block}
use Rattle.ac_rows.specs.Filled.{holds, filled_of}
use Rattle.ac_separation.specs.Separation.{uncoupled_of, unrematrixed_of}

-- block b of a reading, with all that it needs of the blocks before it (A/52 5.4.3)
abbrev pub block_at : FrameCodes → ℕ → Block
block_at g b = filled_of g.head (take b g.block) (slice_index_or g.block b empty_block)

-- the values of block b by coded channel and bin (A/52 7.3.3, 7.3.4); 0 where there is no code
abbrev pub values_of : FrameCodes → ℕ → ℕ → ℕ → ℤ
values_of g b c k = value_of (cell g.codes c b k) (cell g.baps c b k) (cell g.exps c b k)

-- the same with coupled channels taken apart (A/52 7.4.3), and then left and right (A/52 7.5.3)
abbrev pub separated_of : FrameCodes → ℕ → ℕ → ℕ → ℤ
separated_of g b = unrematrixed_of g.head (block_at g b) (uncoupled_of g.head (block_at g b) (values_of g b))

-- the coded channel of a channel in block b: LFE stands behind the coupling channel, where coupling is in use in this block
abbrev pub coded_at : FrameCodes → ℕ → ℕ → ℕ
coded_at g c b =
    if nat_lt c (full_of g.head.acmod) then c else full_of g.head.acmod + count_of (holds (block_at g b).cplinu)

-- the coefficient of channel c at bin k of block b, by channel in coding order: the full ones, then LFE
unfoldable pub heard_of : FrameCodes → ℕ → ℕ → ℕ → ℤ
heard_of g c b k =
    if nat_lt c (full_of g.head.acmod) then separated_of g b c k else values_of g b (coded_at g c b) k

-- the channels of a frame: the full ones, then LFE (A/52 5.4.2.3, 5.4.2.7)
abbrev pub channels_of : FrameCodes → ℕ
channels_of g = full_of g.head.acmod + count_of g.head.lfeon
