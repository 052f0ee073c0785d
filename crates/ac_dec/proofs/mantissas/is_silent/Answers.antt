use Rattle.std.proofs.Common.{◌≡◌, ◌+◌, ◌<◌, ℕ, true, slice_index, subst, ◌∙◌, sym, arith}
use Rattle.ac_dec.proofs.Worth.{all_more, eq_from}
use Rattle.ac_dec.proofs.mantissas.is_silent.Goals as goal

pub loop-k-preserved : goal.loop-k-preserved
loop-k-preserved c =
    λ e. all_more (λ k. slice_index c.args.baps.now k ≡ 0) c.loop-k.k c.loop-k.none _ c.loop-k.invariant (λ t. eq_from (slice_index c.args.baps.now c.loop-k.k) 0 t) (sym c.both-none.ensures ∙ e)
