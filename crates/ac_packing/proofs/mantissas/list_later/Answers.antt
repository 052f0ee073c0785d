use Rattle.std.proofs.Common.{◌-◌, ◌++◌, take, ap, ◌∙◌, refl, arith}
use Rattle.ac_expo.specs.Raw.{channel_span}
use Rattle.ac_record.specs.Order.{over_bins}
use Rattle.ac_packing.specs.Listing.{mantissa_at}
use Rattle.ac_packing.proofs.Listing.{none_listed, channel_after}
use Rattle.ac_packing.proofs.mantissas.list_later.Goals as goal

pub loop-c-init : goal.loop-c-init
loop-c-init c = (omega arith, none_listed (channel_span c.args.q.now.shape) (mantissa_at c.args.q.now c.args.b) (take c.args.at c.args.list.now) _ refl)

pub loop-c-preserved : goal.loop-c-preserved
loop-c-preserved c =
    let q = c.args.q.now in
    let k = c.loop-c.c in (
      omega (arith, c.loop-c.invariant.0, c.list_channel-end.ensures.bound, c.loop-c.auto.c),
      c.list_channel-end.ensures.list
          ∙ (ap (λ l. l ++ over_bins (mantissa_at q c.args.b k) (channel_span q.shape k)) c.loop-c.invariant.1
          ∙ channel_after (channel_span q.shape) k (k - 1) (mantissa_at q c.args.b) (take c.args.at c.args.list.now) c.loop-c.auto.c refl),
    )
