use Rattle.std.proofs.Common.{◌≢◌, ◌<◌, ℕ, slice_index}
use Rattle.ac_base.specs.Rates.{rates}
use Rattle.ac_base.proofs.rates.rate_code.Given as goal

abbrev pub invariant-loop-code : goal.invariant-loop-code
invariant-loop-code l = (k : ℕ) → k < l.code → slice_index rates k ≢ l.rate
