use Rattle.std.proofs.Common.{ℕ, ◌<◌, [], slice_index_or}
use Rattle.ac_packing.specs.Listing.{ArePointersIn}
use Rattle.ac_packing.proofs.pointers.allocate_channel.Given as goal

abbrev pub invariant-loop-b : goal.invariant-loop-b
invariant-loop-b l = (b : ℕ) → b < l.b → ArePointersIn l.q l.c b (slice_index_or l.rows b [])
