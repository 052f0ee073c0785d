use Rattle.std.proofs.Common.{◌≡◌, ◌≤◌, ◌^◌, length, pos, slice_index_or}
use Rattle.ac_base.specs.Quarter.{pair_at}
use Rattle.ac_base.proofs.cosine_table.cosines.Given as goal
use Rattle.ac_base.proofs.Rules.{Holds}

abbrev pub invariant-loop-j : goal.invariant-loop-j
invariant-loop-j l =
    (length l.table ≡ 513)
    × (l.before ≡ (pair_at l.j).0)
    × (l.now ≡ (pair_at l.j).1)
    × (l.before ≤ 2 ^ 60)
    × (l.now ≤ 2 ^ 60)
    × Holds l.j l.table
    × (slice_index_or l.table 512 (pos 0) ≡ pos 0)
