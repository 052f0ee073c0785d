use Rattle.std.proofs.Common.{◌≡◌, ◌<◌, ℕ, length, get_or, Some, None}
use Rattle.std.specs.Prelude.{◌&&◌, nat_lt, if◌then◌else◌}
use Rattle.std.specs.Option.{option_or}
use Rattle.ac_rows.specs.Filled.{entry, holds}
use Rattle.ac_syntax.proofs.filling.phase_flags_where.Given as goal

abbrev pub invariant-loop-j : goal.invariant-loop-j
invariant-loop-j l =
    record {
      each : (j : ℕ) → j < l.j → get_or l.all j None ≡ (if l.two && nat_lt j l.c.bands then Some
          (l.c.phases && holds (option_or (entry l.own j) (entry l.kept j))) else None);
      len : length l.all ≡ 18;
    }
