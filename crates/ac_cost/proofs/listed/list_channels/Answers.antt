use Rattle.std.proofs.Common.{◌<◌, ℕ, List, [], length, ◌∙◌, arith, length-set}
use Rattle.ac_cost.specs.declared.listed.Listed.{Listed}
use Rattle.ac_cost.specs.Lists.{AreListed}
use Rattle.ac_cost.proofs.Listing.{set_more}
use Rattle.ac_cost.proofs.listed.list_channels.Goals as goal

pub loop-c-preserved : goal.loop-c-preserved
loop-c-preserved c =
    let i = c.loop-c in
    let P : ℕ → List Listed → Type 0 = λ d rows. AreListed c.args.shape.now c.args.raw.now.e d rows in
    let in_range : i.c < length i.out = omega (arith, c.coded-c-end.ensures.bound, i.invariant.long, c.loop-c-test.true) in
    record {
      done = set_more P i.out i.c _ [] in_range i.invariant.done c.list_channel.ensures.value;
      long = length-set i.out i.c _ ∙ i.invariant.long;
    }
