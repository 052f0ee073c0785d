use Rattle.std.proofs.Common.{arith, ◌∙◌}
use Rattle.ac_convolution.specs.Negacyclic.{wave, items}
use Rattle.ac_convolution.specs.Transform.{kernel_of, table_of}
use Rattle.ac_convolution.proofs.More.{row_anew}
use Rattle.ac_convolution.proofs.Whole.{kernel_parts_same}
use Rattle.ac_convolution.proofs.table.table.Goals as goal

pub loop-e-preserved : goal.loop-e-preserved
loop-e-preserved c =
    let h = items c.args.half.now in
    let e = c.loop-e.e in
    row_anew 32 48 e (table_of h) c.loop-e.out c.parts.result (omega arith) c.loop-e.invariant
    (λ n below. c.parts.ensures n below ∙ kernel_parts_same (items c.kernels.result) (kernel_of (wave 256 h) e) c.kernels.ensures.value n below)
