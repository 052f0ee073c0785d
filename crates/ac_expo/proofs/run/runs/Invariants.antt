use Rattle.std.proofs.Common.{◌≡◌, ◌≤◌, ◌++◌, drop}
use Rattle.std.specs.List.{All}
use Rattle.arrayvec.specs.ArrayVec.{array_vec_len}
use Rattle.ac_base.specs.Words.{runs_at, runs_of, IsRun}
use Rattle.ac_expo.proofs.run.runs.Given as goal

abbrev pub invariant-loop-from : goal.invariant-loop-from
invariant-loop-from l =
    (l.list.items ++ runs_at l.from (drop l.from l.codes) ≡ runs_of l.codes) × (array_vec_len l.list ≤ l.from) × All IsRun l.list.items
