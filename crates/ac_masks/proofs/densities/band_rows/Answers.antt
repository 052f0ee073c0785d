use Rattle.std.proofs.Common.{ℕ, arith}
use Rattle.ac_base.proofs.AllocationTables.{starts_near, starts_grow}
use Rattle.ac_masks.proofs.densities.band_rows.Goals as goal

pub fold_rows-requires-clause-order : goal.fold_rows-requires-clause-order
fold_rows-requires-clause-order c = omega (arith, starts_grow c.args.b c.requires.band)

pub fold_rows-requires-clause-near : goal.fold_rows-requires-clause-near
fold_rows-requires-clause-near c =
    omega (arith, starts_near c.args.b c.requires.band, starts_grow c.args.b c.requires.band)
