use Rattle.std.proofs.Common.{◌≡◌, ◌≤◌, take}
use Rattle.std.specs.List.{count_by}
use Rattle.ac_rows.specs.Filled.{holds}
use Rattle.ac_rows.proofs.known.joined_count.Given as goal

abbrev pub invariant-loop-joined : goal.invariant-loop-joined
invariant-loop-joined l = (l.count ≡ count_by holds (take l.joined-index l.cplbndstrc)) × (l.count ≤ l.joined-index)
