use Rattle.std.proofs.Common.{◌≡◌, ◌+◌, ◌-◌, ◌<◌, ◌≤◌, ℕ, [], slice_index_or, arith}
use Rattle.ac_base.proofs.SpanBounds.{span_some, span_end}
use Rattle.ac_alloc.proofs.Spans.{bands_are, bands_rise}
use Rattle.ac_masks.proofs.Readying.{band_bases_are, past_none}
use Rattle.ac_masks.proofs.masks.fill_bases.Goals as goal

pub returns : goal.returns
returns c = λ (row : ℕ) h.
    band_bases_are c.args.p.now c.args.span.now (slice_index_or c.args.levels.now row []) c.densities-density.result c.mask_bands.new.out row c.band_of-from.result (c.band_of.result + 1) c.requires.span c.band_of-from.ensures.value (omega (arith, c.band_of.ensures.value)) (λ b m. c.densities-density.ensures.values row b h m) (λ b m. past_none c.densities-density.result row b c.densities-density.ensures.long m) (λ b m n. c.mask_bands.ensures.values row b (omega arith) m n) (c.mask_bands.ensures.bounds row)

pub mask_bands-requires-clause-bands : goal.mask_bands-requires-clause-bands
mask_bands-requires-clause-bands c =
    bands_are c.args.span.now c.band_of-from.result (c.band_of.result + 1) c.requires.span c.band_of-from.ensures.value (omega (arith, c.band_of.ensures.value))

pub mask_bands-requires-clause-order : goal.mask_bands-requires-clause-order
mask_bands-requires-clause-order c =
    let s = c.args.span.now in
    let some = span_some s c.requires.span in
    let end = span_end s c.requires.span in
    omega (arith, bands_rise s.start (s.end - 1) (omega arith) (omega arith), c.band_of-from.ensures.value, c.band_of.ensures.value)
