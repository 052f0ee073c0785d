use Rattle.std.proofs.Common.{◌≡◌, ◌*◌, ◌≤◌}
use Rattle.ac_base.specs.Sigma.{sum_below}
use Rattle.ac_record.specs.Held.{fine_of}
use Rattle.ac_reading.proofs.channels.fine_sum.Given as goal

abbrev pub invariant-loop-c : goal.invariant-loop-c
invariant-loop-c l = (l.sum ≡ sum_below l.c (fine_of l.head l.block)) × (l.sum ≤ 255 * l.c)
