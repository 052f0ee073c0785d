use Rattle.std.specs.Prelude.{◌≡◌, ◌*◌, ◌^◌, ◌≤◌}
use Rattle.ac_synth.specs.Sums.{row_sum}
use Rattle.ac_synth.proofs.magnitudes.row_sum.Given as goal

abbrev pub invariant-loop-t : goal.invariant-loop-t
invariant-loop-t l = record {
  value : l.sum ≡ row_sum l.fn.row l.t;
  bound : l.sum ≤ l.t * 2 ^ 23;
}
