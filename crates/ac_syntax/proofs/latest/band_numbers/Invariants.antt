use Rattle.std.proofs.Common.{◌≡◌, ◌<◌, ℕ, length, get_or, None}
use Rattle.std.specs.Option.{option_or}
use Rattle.ac_rows.specs.Filled.{entry}
use Rattle.ac_syntax.proofs.latest.band_numbers.Given as goal

abbrev pub invariant-loop-k : goal.invariant-loop-k
invariant-loop-k l =
    record {
      each : (j : ℕ) → j < l.k → get_or l.all j None ≡ option_or (entry l.own j) (entry l.kept j);
      len : length l.all ≡ 18;
    }
