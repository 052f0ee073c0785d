use Rattle.std.proofs.Common.{◌≡◌, ℕ, ◌<◌, [], length, slice_index_or}
use Rattle.ac_packing.specs.Listing.{ArePointersOf}
use Rattle.ac_packing.proofs.pointers.allocate_frame.Given as goal

abbrev pub invariant-loop-c : goal.invariant-loop-c
invariant-loop-c l = (length l.baps ≡ 7) × ((c : ℕ) → c < l.c → ArePointersOf l.q c (slice_index_or l.baps c []))
