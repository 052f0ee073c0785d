use Rattle.std.proofs.Common.{ℕ, [], slice_index_or, arith}
use Rattle.ac_sixths.specs.Runs.{column}
use Rattle.ac_windows.proofs.Holding.{bases_are}
use Rattle.ac_windows.proofs.masks.mask_rows.Goals as goal

pub returns : goal.returns
returns c = λ (row : ℕ) l.
    bases_are c.args.p.now c.args.span.now (slice_index_or c.args.levels.now row []) (column c.fill_bases.new.out row) c.requires.span (c.fill_bases.ensures row (omega arith))
