use Rattle.std.proofs.Common.{◌≡◌, ◌-◌}
use Rattle.ac_base.specs.Fit.{tally_bins}
use Rattle.ac_sixths.specs.Runs.{column}
use Rattle.ac_windows.specs.Packing.{packed, pointer_of}
use Rattle.ac_windows.proofs.counted.count_bins.Given as goal

abbrev pub invariant-loop-k : goal.invariant-loop-k
invariant-loop-k l = l.sum ≡ packed (tally_bins (pointer_of l.levels (column l.bases l.row) l.t) l.start (l.k - l.start))
