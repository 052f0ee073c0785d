use Rattle.std.proofs.Common.{◌≡◌, ◌^◌, length, slice_index}
use Rattle.ac_base.specs.Sigma.{Within, Lists}
use Rattle.ac_mant.specs.Quantiser.{value_of}
use Rattle.ac_dec.proofs.mantissas.coded_row.Given as goal

abbrev pub invariant-loop-k : goal.invariant-loop-k
invariant-loop-k l =
    (length l.row ≡ 256)
    × Lists l.k (λ k. value_of (slice_index l.codes k) (slice_index l.baps k) (slice_index l.exps k)) l.row
    × Within (2 ^ 24) l.k l.row
