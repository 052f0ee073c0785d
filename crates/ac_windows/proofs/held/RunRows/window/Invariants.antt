use Rattle.std.proofs.Common.{◌≡◌, ◌<◌, ◌+◌, ℕ, length}
use Rattle.ac_base.specs.declared.runs.Run.{Run}
use Rattle.ac_cost.specs.Rows.{row_of}
use Rattle.ac_cost.specs.Runs.{IsRunOf}
use Rattle.ac_windows.specs.Windows.{entry_of, block_sixths}
use Rattle.ac_windows.proofs.held.RunRows.window.Given as goal

abbrev pub invariant-loop-c : goal.invariant-loop-c
invariant-loop-c l = record {
  long : length l.out.six ≡ 7;
  done : (c : ℕ) → c < l.c → (run : Run) (j : ℕ) → IsRunOf l.self.shape c run → j < 16
      → entry_of l.out.six c (row_of run) j ≡ block_sixths l.self.shape l.self.raw (l.t0 + j) c run;
}
