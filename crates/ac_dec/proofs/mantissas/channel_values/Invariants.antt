use Rattle.std.proofs.Common.{◌≡◌, ◌^◌, ◌<◌, ℕ, [], length, slice_index, slice_index_or}
use Rattle.ac_base.specs.Sigma.{Within, Lists}
use Rattle.ac_mant.specs.Quantiser.{value_of}
use Rattle.ac_dec.proofs.mantissas.channel_values.Given as goal

abbrev pub invariant-loop-b : goal.invariant-loop-b
invariant-loop-b l = record {
  long : length l.rows ≡ 6;
  value : (b : ℕ) → b < l.b
      → Lists 256 (λ k. value_of (slice_index (slice_index_or l.codes b []) k) (slice_index (slice_index_or l.baps b []) k) (slice_index (slice_index_or l.exps b []) k)) (slice_index_or l.rows b []);
  bound : (b : ℕ) → b < l.b → Within (2 ^ 24) 256 (slice_index_or l.rows b []);
}
