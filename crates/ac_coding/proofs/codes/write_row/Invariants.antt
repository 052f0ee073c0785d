use Rattle.std.proofs.Common.{pos, slice_index, slice_index_or}
use Rattle.ac_mant.specs.Quantiser.{code_of}
use Rattle.ac_coding.specs.Rows.{IsPut}
use Rattle.ac_coding.proofs.codes.write_row.Given as goal

abbrev pub invariant-loop-k : goal.invariant-loop-k
invariant-loop-k l = IsPut l.span (λ j. code_of (slice_index_or l.coefs j (pos 0)) (slice_index l.exps j) (slice_index l.pointers j)) l.out l.k
