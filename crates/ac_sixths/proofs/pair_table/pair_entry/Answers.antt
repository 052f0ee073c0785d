use Rattle.std.proofs.Common.{◌+◌, ◌*◌, pos, ◌-ℤ◌, arith}
use Rattle.ac_sixths.proofs.Keyed.{sixths_small}
use Rattle.ac_sixths.proofs.pair_table.pair_entry.Goals as goal

pub overflow_add-result : goal.overflow_add-result
overflow_add-result c =
    omega (arith, c.entry.ensures, c.second.ensures, sixths_small (pos 3000 -ℤ pos c.args.i), sixths_small (pos 3064 -ℤ pos (c.args.i + 32 * c.args.d)))
