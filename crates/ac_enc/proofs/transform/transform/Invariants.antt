use Rattle.std.proofs.Common.{◌≡◌, ◌^◌, ◌-◌, ◌<◌, ℕ, [], length, slice_index_or}
use Rattle.ac_base.specs.Sigma.{Within, Lists}
use Rattle.ac_enc.specs.Frame.{coefficient_at, joined}
use Rattle.ac_enc.proofs.transform.transform.Given as goal

abbrev pub invariant-loop-b : goal.invariant-loop-b
invariant-loop-b l = record {
  long : length l.rows ≡ 6;
  value : (b : ℕ) → b < l.b → Lists 256 (coefficient_at (joined l.last l.pcm) b) (slice_index_or l.rows b []);
  bound : (b : ℕ) → b < l.b → Within (2 ^ 24 - 1) 256 (slice_index_or l.rows b []);
}
