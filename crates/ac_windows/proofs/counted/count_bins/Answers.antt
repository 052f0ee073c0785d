use Rattle.std.proofs.Common.{◌-◌, ◌+◌, ◌*◌, slice_index, refl, arith}
use Rattle.ac_sixths.specs.Runs.{column}
use Rattle.ac_windows.specs.Packing.{pointer_of}
use Rattle.ac_windows.proofs.Counting.{lanes_none, lanes_more, lanes_small, one_small, pointer_read}
use Rattle.ac_windows.proofs.counted.count_bins.Goals as goal

pub loop-k-init : goal.loop-k-init
loop-k-init c = lanes_none (pointer_of c.args.levels.now (column c.args.bases.now c.args.row) c.args.t) c.args.start _ refl

pub loop-k-preserved : goal.loop-k-preserved
loop-k-preserved c =
    let levels = c.args.levels.now in
    let bases = column c.args.bases.now c.args.row in
    let k = c.loop-k.k in
    let read = pointer_read levels bases c.args.t k c.band_of.result c.base_at-base.result (c.base_at-base.result + 4 * slice_index levels k + c.args.t) c.pointer.result c.pointer.ensures.value refl c.base_at-base.ensures c.band_of.ensures.value in
    lanes_more (pointer_of levels bases c.args.t) c.args.start k c.pointer.result c.loop-k.sum c.lanes-sum.result (omega (arith, c.loop-k.auto.k)) c.loop-k.invariant c.lanes-sum.ensures read

pub overflow_add-sum : goal.overflow_add-sum
overflow_add-sum c =
    let levels = c.args.levels.now in
    let bases = column c.args.bases.now c.args.row in
    let k = c.loop-k.k in
    let small = lanes_small (pointer_of levels bases c.args.t) c.args.start (k - c.args.start) (omega arith) in
    let one = one_small c.pointer.result in
    omega (arith, small, one, c.loop-k.invariant, c.lanes-sum.ensures)
