use Rattle.std.proofs.Common.{◌≡◌, ◌-◌, ◌+◌, min, [], slice_index, slice_index_or, arith, ◌∙◌, sym, ap}
use Rattle.std.proofs.lemmas.List.{get_or-replicate}
use Rattle.ac_expo.specs.Greatest.{bin_least}
use Rattle.ac_expo.proofs.Minima.{bin_none, bin_more}
use Rattle.ac_expo.proofs.lists.least_of_blocks.Goals as goal

pub loop-b-init : goal.loop-b-init
loop-b-init c = λ k h. get_or-replicate 256 k 24 0 (omega arith) ∙ sym (bin_none _ _ _ k (omega arith))

pub loop-b-preserved : goal.loop-b-preserved
loop-b-preserved c = λ k h.
    let raw = c.args.raw.now in
    let from = c.args.run.now.from in
    let more = bin_more raw from (c.loop-b.b - from) (c.loop-b.b + 1 - from) c.from.result k (omega arith) (omega arith) in
    let old : slice_index c.loop-b.bins k ≡ bin_least raw from (c.loop-b.b - from) k = c.loop-b.invariant k h in
    c.lower_bins.ensures k h ∙ ap (λ n. min n (slice_index (slice_index_or raw c.from.result []) k)) old ∙ sym more
