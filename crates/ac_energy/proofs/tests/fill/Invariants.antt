use Rattle.std.proofs.Common.{◌≡◌, ◌<◌, ◌^◌, ℕ, [], length, slice_index_or}
use Rattle.ac_base.specs.Sigma.{Within}
use Rattle.ac_energy.proofs.tests.fill.Given as goal

abbrev pub invariant-loop-b : goal.invariant-loop-b
invariant-loop-b l = (length l.rows ≡ 6) × ((b : ℕ) → b < l.b → Within (2 ^ 23) 256 (slice_index_or l.rows b []))
