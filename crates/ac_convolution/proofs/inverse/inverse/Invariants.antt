use Rattle.std.proofs.Common.{◌≡◌, length}
use Rattle.ac_convolution.specs.Rows.{Rows}
use Rattle.ac_convolution.specs.Transform.{inverse_of, waves_of}
use Rattle.ac_convolution.proofs.inverse.inverse.Given as goal

abbrev pub invariant-loop-i : goal.invariant-loop-i
invariant-loop-i l = (length l.out ≡ 16) × Rows l.i 16 (inverse_of (waves_of l.q)) l.out
