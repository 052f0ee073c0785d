use Rattle.std.proofs.Common.{◌≡◌, ◌≤◌, ◌<◌, ℕ, ◌/◌, ◌^◌, length, pos, unsigned_abs, slice_index_or}
use Rattle.ac_wav.specs.Samples.{align_of, sample_in}
use Rattle.ac_wav.proofs.samples.channel.Given as goal

abbrev pub invariant-loop-t : goal.invariant-loop-t
invariant-loop-t l = (length l.row ≡ 1536)
    × ((t : ℕ) → t < l.t → slice_index_or l.row t (pos 0) ≡ sample_in l.head (length l.piece / align_of l.head) l.piece l.c t)
    × ((t : ℕ) → t < l.t → unsigned_abs (slice_index_or l.row t (pos 0)) ≤ 2 ^ 23)
