use Rattle.std.proofs.Common.{◌≡◌, slice_index, ◌∙◌, sym, arith}
use Rattle.ac_reading.proofs.Keeping.{all_more, eq_from}
use Rattle.ac_reading.proofs.cells.same_row.Goals as goal

pub loop-k-preserved : goal.loop-k-preserved
loop-k-preserved c =
    λ e. all_more (λ k. slice_index c.args.a.now k ≡ slice_index c.args.b.now k) c.loop-k.k c.loop-k.same _ c.loop-k.invariant (λ t. eq_from (slice_index c.args.a.now c.loop-k.k) (slice_index c.args.b.now c.loop-k.k) t) (sym c.both-same.ensures ∙ e)
