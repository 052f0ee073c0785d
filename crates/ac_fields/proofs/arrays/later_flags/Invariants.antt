use Rattle.std.proofs.Common.{◌≡◌, ◌<◌, ℕ, length, get_or, None}
use Rattle.std.specs.Prelude.{◌&&◌, nat_lt, nat_le}
use Rattle.ac_sent.specs.Fields.{when}
use Rattle.ac_fields.proofs.arrays.later_flags.Given as goal

abbrev pub invariant-loop-k : goal.invariant-loop-k
invariant-loop-k l =
    record {
      each : (k : ℕ) → k < l.k → get_or l.all k None ≡ (when (l.there && nat_le 1 k && nat_lt k l.subbands) l.value);
      len : length l.all ≡ 18;
    }
