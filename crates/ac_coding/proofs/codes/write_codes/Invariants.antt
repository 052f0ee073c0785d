use Rattle.std.proofs.Common.{◌≡◌, ℕ, ◌<◌, [], length, slice_index_or}
use Rattle.ac_rows.specs.Filled.{listed}
use Rattle.ac_coding.specs.Rows.{code_by}
use Rattle.ac_energy.specs.Coefficients.{entry}
use Rattle.ac_coding.specs.Values.{row_at}
use Rattle.ac_coding.proofs.codes.write_codes.Given as goal

abbrev pub invariant-loop-c : goal.invariant-loop-c
invariant-loop-c l =
    (length l.out ≡ 7)
    × ((d : ℕ) → d < l.c → slice_index_or l.out d [] ≡ listed 6 0 (row_at l.shape (code_by l.shape (entry l.coefs.c) l.exps l.t) d))
