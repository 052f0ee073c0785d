use Rattle.std.proofs.Common.{◌≡◌, ◌+◌, ◌<◌, ◌≤◌, ◌∙◌, ℕ, [], length, length-set, slice_index, slice_index_or, arith}
use Rattle.ac_masks.specs.Bases.{base_by}
use Rattle.ac_masks.specs.Densities.{density_in}
use Rattle.ac_masks.proofs.Readying.{base_ready, table_values, table_bounds}
use Rattle.ac_masks.proofs.masks.mask_bands.Goals as goal

pub loop-b-preserved : goal.loop-b-preserved
loop-b-preserved c =
    let b = c.loop-b.b in
    let out = c.loop-b.out in
    let rows = c.advance.new.rows in
    let new = c.band_bases.result in
    let P = λ (i : ℕ). density_in c.args.density.now i in
    let inside : b < length out = omega (arith, c.loop-b.invariant.long) in
    let here : (i : ℕ) → i < 64 → slice_index new i ≡ base_by c.args.p.now c.args.lead c.args.from (P i) b = λ i h.
    base_ready c.args.p.now c.args.lead (P i) c.args.from c.args.to b (slice_index c.begins-begin.result i) (slice_index rows.low i) (slice_index rows.fast i) (slice_index rows.slow i) c.knee.result c.hearing.result (slice_index new i) c.requires.bands (omega arith) (omega arith) (c.begins-begin.ensures i h) c.knee.ensures.value c.hearing.ensures.value (c.advance.ensures.ready i h) (c.band_bases.ensures.values i h) in
    record {
      long = length-set out b new ∙ c.loop-b.invariant.long;
      ready = c.advance.ensures.ready;
      small = c.advance.ensures.small;
      values = table_values (λ i k. base_by c.args.p.now c.args.lead c.args.from (P i) k) out new c.args.from b inside c.loop-b.invariant.values here;
      bounds = table_bounds 2232 out new b inside c.loop-b.invariant.bounds c.band_bases.ensures.bounds;
    }
