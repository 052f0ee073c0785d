use Rattle.std.proofs.Common.{◌≡◌, ◌<◌, ℕ, length, get_or, None}
use Rattle.std.specs.Prelude.{◌&&◌, nat_lt, nat_le}
use Rattle.ac_rows.specs.Filled.{entry}
use Rattle.ac_syntax.specs.Filling.{or_if}
use Rattle.ac_syntax.proofs.filling.structure_of.Given as goal

abbrev pub invariant-loop-j : goal.invariant-loop-j
invariant-loop-j l =
    record {
      each : (j : ℕ) → j < l.j → get_or l.all j None ≡ (or_if (nat_le 1 j && nat_lt j l.count) (entry l.own j) (entry l.kept j));
      len : length l.all ≡ 18;
    }
