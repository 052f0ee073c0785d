use Rattle.std.proofs.Common.{◌+◌, ◌-◌, ℕ, refl, slice_index, arith}
use Rattle.ac_masks.specs.Densities.{density_in}
use Rattle.ac_masks.proofs.Banding.{full_at}
use Rattle.ac_masks.proofs.Stepping.{rise_more, rise_done}
use Rattle.ac_masks.proofs.masks.begin_rows.Goals as goal

pub loop-n-init : goal.loop-n-init
loop-n-init c = record {
  long = refl;
  starts = λ (i : ℕ) h. full_at 7 64 i h;
}

pub loop-n-preserved : goal.loop-n-preserved
loop-n-preserved c = record {
  long = omega (arith, c.begin_behind.array_long);
  starts = λ (i : ℕ) h. rise_more (density_in c.args.density.now i) c.args.end c.loop-n.n (c.args.end - 1 - c.loop-n.n) (slice_index c.loop-n.begin i) (slice_index c.begin_behind.new.begin i) (omega arith) refl (c.loop-n.invariant.starts i h) (c.begin_behind.ensures i h);
}

pub returns : goal.returns
returns c = λ (i : ℕ) h. rise_done (density_in c.args.density.now i) c.args.end c.loop-n.n (slice_index c.loop-n.begin i) c.requires.low (omega arith) (c.loop-n.invariant.starts i h)
