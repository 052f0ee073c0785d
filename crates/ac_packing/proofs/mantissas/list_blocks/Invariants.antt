use Rattle.std.proofs.Common.{◌≡◌, length}
use Rattle.ac_packing.specs.Listing.{AreListed}
use Rattle.ac_packing.proofs.mantissas.list_blocks.Given as goal

abbrev pub invariant-loop-b : goal.invariant-loop-b
invariant-loop-b l = (length l.lists ≡ 6) × (length l.counts ≡ 6) × AreListed l.q l.b l.lists l.counts
