use Rattle.std.proofs.Common.{◌≡◌, ◌+◌, ◌≤◌, ℕ, slice_index, arith}
use Rattle.ac_masks.specs.Densities.{density_in}
use Rattle.ac_masks.proofs.Readying.{ready_next}
use Rattle.ac_masks.proofs.masks.advance.Goals as goal

pub returns-clause-ready : goal.returns-clause-ready
returns-clause-ready c = λ (l : ℕ) h.
    let old = c.args.rows.now in
    ready_next c.args.p.now c.args.lead (density_in c.args.density.now l) c.args.from c.args.to c.args.b (slice_index c.args.begin.now l) (slice_index old.low l) (slice_index old.fast l) (slice_index old.slow l) (slice_index c.low_on.new.low l) (slice_index c.leak_on.new.leak l) (slice_index c.leak_on-2.new.leak l) c.fast_gain.result c.fast_decay.result c.slow_gain.result c.slow_decay.result c.requires.bands c.requires.low c.requires.high (c.requires.begin l h) c.fast_gain.ensures.value c.fast_decay.ensures c.slow_gain.ensures.value c.slow_decay.ensures c.fast_gain.ensures.bound c.slow_gain.ensures.bound (c.requires.ready l h) (c.low_on.ensures l h) (c.leak_on.ensures.values l h) (c.leak_on-2.ensures.values l h)

pub returns-clause-small : goal.returns-clause-small
returns-clause-small c = λ (l : ℕ) h. (c.leak_on.ensures.bounds l h, c.leak_on-2.ensures.bounds l h)
