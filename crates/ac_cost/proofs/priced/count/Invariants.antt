use Rattle.std.proofs.Common.{◌≡◌, ◌-◌, slice_index}
use Rattle.ac_base.specs.Fit.{tally_bins}
use Rattle.ac_mant.specs.Counts.{tally}
use Rattle.ac_cost.proofs.priced.count.Given as goal

abbrev pub invariant-loop-k : goal.invariant-loop-k
invariant-loop-k l = tally l.counts ≡ tally_bins (slice_index l.pointers) l.span.start (l.k - l.span.start)
