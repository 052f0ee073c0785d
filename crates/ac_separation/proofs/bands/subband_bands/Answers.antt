use Rattle.std.proofs.Common.{◌<◌, ◌≤◌, ◌-◌, length, length-set, arith, refl, ◌∙◌}
use Rattle.std.specs.Prelude.{replicate}
use Rattle.ac_separation.proofs.Subbands.{band_bound, bands_start, bands_more}
use Rattle.ac_separation.proofs.bands.subband_bands.Goals as goal

pub loop-n-init : goal.loop-n-init
loop-n-init c = (refl, bands_start c.args.block.now (replicate 18 0) refl)

pub next-requires : goal.next-requires
next-requires c =
    let before = c.loop-n.invariant.1 (c.loop-n.n - 1) (omega arith) in
    omega (arith, before, band_bound c.args.block.now (c.loop-n.n - 1))

pub loop-n-preserved : goal.loop-n-preserved
loop-n-preserved c =
    let room : c.loop-n.n < length c.loop-n.bands = omega (arith, c.loop-n.invariant.0) in
    let some : 1 ≤ c.loop-n.n = omega arith in (
      length-set c.loop-n.bands c.loop-n.n c.next.result ∙ c.loop-n.invariant.0,
      bands_more c.args.block.now c.loop-n.bands c.loop-n.n c.next.result c.holds.result some room c.loop-n.invariant.1 c.holds.ensures c.next.ensures,
    )
