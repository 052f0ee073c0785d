use Rattle.std.proofs.Common.{◌-◌, arith}
use Rattle.ac_base.proofs.SpanBounds.{span_end}
use Rattle.ac_sixths.specs.Runs.{column}
use Rattle.ac_windows.specs.Packing.{pointer_of}
use Rattle.ac_windows.proofs.Counting.{unpacked}
use Rattle.ac_windows.proofs.counted.count_row.Goals as goal

pub returns : goal.returns
returns c =
    let s = c.args.span.now in
    let last = span_end s c.requires.span in
    unpacked c.count_bins-sum.result (pointer_of c.args.levels.now (column c.args.bases.now c.args.row) c.args.t) s.start (s.end - s.start) (omega (arith, last)) c.count_bins-sum.ensures
