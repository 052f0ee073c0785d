use Rattle.std.proofs.Common.{◌≡◌, ◌+◌, ◌≤◌, ℕ, replicate, slice_index, ◌∙◌, arith}
use Rattle.ac_masks.specs.Densities.{density_in}
use Rattle.ac_masks.proofs.Banding.{full_at, zero_at}
use Rattle.ac_masks.proofs.Readying.{ready_first}
use Rattle.ac_masks.proofs.masks.start_rows.Goals as goal

pub returns-clause-ready : goal.returns-clause-ready
returns-clause-ready c = λ (l : ℕ) h.
    ready_first c.args.p.now c.args.lead (density_in c.args.density.now l) c.args.from c.args.to (slice_index (replicate 64 0) l) (slice_index (replicate 64 c.fast_start.result) l) (slice_index (replicate 64 c.slow_start.result) l) c.requires.bands (zero_at 64 l) (full_at c.fast_start.result 64 l h ∙ c.fast_start.ensures.value) (full_at c.slow_start.result 64 l h ∙ c.slow_start.ensures.value)

pub returns-clause-small : goal.returns-clause-small
returns-clause-small c = λ (l : ℕ) h.
    (omega (arith, full_at c.fast_start.result 64 l h, c.fast_start.ensures.bound), omega (arith, full_at c.slow_start.result 64 l h, c.slow_start.ensures.bound))
