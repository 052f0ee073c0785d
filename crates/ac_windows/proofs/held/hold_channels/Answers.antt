use Rattle.std.proofs.Common.{◌<◌, ℕ, length, ◌∙◌, arith, length-set}
use Rattle.ac_cost.proofs.Listing.{set_more}
use Rattle.ac_windows.specs.declared.channel.ChannelRows.{ChannelRows}
use Rattle.ac_windows.specs.Held.{IsHeld}
use Rattle.ac_windows.specs.Seen.{no_rows}
use Rattle.ac_windows.proofs.held.hold_channels.Goals as goal

pub loop-c-preserved : goal.loop-c-preserved
loop-c-preserved c =
    let i = c.loop-c in
    let P : ℕ → ChannelRows → Type 0 = λ d x. IsHeld c.args.shape.now c.args.raw.now.e d x.levels x.bases in
    let in_range : i.c < length i.out = omega (arith, c.coded-c-end.ensures.bound, i.invariant.long, c.loop-c-test.true) in
    record {
      done = set_more P i.out i.c _ no_rows in_range i.invariant.done c.hold_channel.ensures;
      long = length-set i.out i.c _ ∙ i.invariant.long;
    }

pub returns : goal.returns
returns c = λ (d : ℕ) l. c.loop-c.invariant.done d (omega (arith, l, c.coded-c-end.ensures.value, c.loop-c-test.false))
