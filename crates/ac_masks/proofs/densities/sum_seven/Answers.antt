use Rattle.std.proofs.Common.{◌+◌, ◌*◌, ◌-◌, ℕ, [], slice_index, slice_index_or, arith}
use Rattle.ac_masks.specs.Densities.{bin_density}
use Rattle.ac_masks.proofs.Banding.{sum_more}
use Rattle.ac_masks.proofs.densities.sum_seven.Goals as goal

pub loop-k-preserved : goal.loop-k-preserved
loop-k-preserved c =
    let k = c.loop-k.k in
    record {
      long = omega (arith, c.add_seven.array_long);
      values = λ (i : ℕ) h. sum_more (bin_density (slice_index_or c.args.levels.now (c.args.at + i) [])) c.args.first k (slice_index c.loop-k.sums i) (slice_index c.add_seven.new.sums i) (omega arith) (c.loop-k.invariant.values i h) (c.add_seven.ensures.values i h);
      bounds = λ (i : ℕ) h. let b = c.add_seven.ensures.bounds (4080 + 64 * (k - 1 - c.args.first)) i (omega arith) h (c.loop-k.invariant.bounds i h) in omega (arith, b);
    }
