use Rattle.std.proofs.Common.{◌≡◌, ◌/◌, ◌%◌, length}
use Rattle.ac_base.specs.Sigma.{Lists}
use Rattle.ac_convolution.specs.Negacyclic.{items}
use Rattle.ac_convolution.specs.Rows.{row}
use Rattle.ac_convolution.specs.Transform.{whole_of}
use Rattle.ac_convolution.proofs.sums.join.Given as goal

abbrev pub invariant-loop-n : goal.invariant-loop-n
invariant-loop-n l = (length l.out ≡ 256) × Lists l.n (λ n. whole_of (items (row l.low (n % 16)) (n / 16)) (items (row l.high (n % 16)) (n / 16))) l.out
