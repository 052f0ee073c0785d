use Rattle.std.proofs.Common.{◌≡◌, ◌<◌, ℕ, length, get_or, None}
use Rattle.std.specs.Prelude.{◌&&◌, nat_lt, slice_index_or}
use Rattle.ac_sent.specs.Fields.{when}
use Rattle.ac_fields.proofs.arrays.coordinate_exponents.Given as goal

abbrev pub invariant-loop-k : goal.invariant-loop-k
invariant-loop-k l =
    record {
      each : (k : ℕ) → k < l.k → get_or l.all k None ≡ (when (l.there && nat_lt k l.bands)
          (slice_index_or l.coordinates k (record { exp = 0; mant = 0 })).exp);
      len : length l.all ≡ 18;
    }
