use Rattle.std.proofs.Common.{◌≡◌, ℕ, ◌<◌, ◌-◌, [], length, slice_index_or}
use Rattle.ac_coding.specs.Rows.{code_by, ArePointersIn}
use Rattle.ac_energy.specs.Coefficients.{entry}
use Rattle.ac_coding.specs.Values.{row_at}
use Rattle.ac_coding.proofs.codes.write_channel.Given as goal

abbrev pub invariant-loop-b : goal.invariant-loop-b
invariant-loop-b l =
    (length l.rows ≡ 6)
    × (0 < l.b → ArePointersIn l.shape l.exps l.t l.c (l.b - 1) l.pointers)
    × ((a : ℕ) → a < l.b → slice_index_or l.rows a [] ≡ row_at l.shape (code_by l.shape (entry l.coefs.c) l.exps l.t) l.c a)
