use Rattle.std.proofs.Common.{◌≡◌, ◌<◌, ℕ, List, length, slice_index_or}
use Rattle.ac_base.specs.declared.runs.Run.{Run}
use Rattle.ac_mant.specs.Counts.{tally}
use Rattle.ac_cost.specs.Pointers.{run_tally}
use Rattle.ac_cost.specs.Lists.{not_listed, IsListed}
use Rattle.ac_cost.specs.Prices.{no_counts}
use Rattle.ac_cost.proofs.priced.price_channel.Given as goal

abbrev pub invariant-loop-row : goal.invariant-loop-row
invariant-loop-row l = record {
  done : (row : ℕ) → row < l.row → (raw : List (List (List ℕ))) (run : Run) → IsListed l.shape raw l.c run (slice_index_or l.lists row not_listed)
      → tally (slice_index_or l.out row no_counts) ≡ run_tally l.shape raw l.t l.c run;
  long : length l.out ≡ 63;
}
