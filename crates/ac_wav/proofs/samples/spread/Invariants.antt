use Rattle.std.proofs.Common.{◌≡◌, ◌<◌, ℕ, ◌/◌, length, slice_index_or, []}
use Rattle.ac_wav.specs.Samples.{align_of, sample_in, RowIs, RowWithin}
use Rattle.ac_wav.proofs.samples.spread.Given as goal

abbrev pub invariant-loop-c : goal.invariant-loop-c
invariant-loop-c l = (length l.out ≡ 6)
    × ((c : ℕ) → c < l.c → RowIs (sample_in l.head (length l.piece / align_of l.head) l.piece c) (slice_index_or l.out c []))
    × ((c : ℕ) → c < l.c → RowWithin (slice_index_or l.out c []))
