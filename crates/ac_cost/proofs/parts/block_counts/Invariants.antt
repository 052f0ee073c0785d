use Rattle.std.proofs.Common.{◌≡◌}
use Rattle.ac_base.specs.Fit.{tally_channels}
use Rattle.ac_expo.specs.Raw.{channel_span}
use Rattle.ac_mant.specs.Counts.{tally}
use Rattle.ac_cost.specs.Pointers.{pointers}
use Rattle.ac_cost.specs.Prices.{AreFew}
use Rattle.ac_cost.specs.Records.{AtOffset}
use Rattle.ac_cost.proofs.parts.block_counts.Given as goal

abbrev pub invariant-loop-c : goal.invariant-loop-c
invariant-loop-c g l =
    let v = g.C.RunCosts.offset l.costs in
    record {
      value : tally l.counts ≡ tally_channels (channel_span v.shape) l.c (λ c. pointers v.shape v.raw v.t l.a.w c l.block);
      bound : AreFew l.c l.counts;
    }
