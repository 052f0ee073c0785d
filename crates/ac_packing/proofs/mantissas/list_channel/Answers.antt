use Rattle.std.proofs.Common.{◌++◌, take, ap, ◌∙◌, arith}
use Rattle.ac_packing.proofs.Listing.{channel_listed}
use Rattle.ac_packing.proofs.mantissas.list_channel.Goals as goal

pub returns-clause-list : goal.returns-clause-list
returns-clause-list c =
    c.list_bins.ensures.list
    ∙ ap (λ l. take c.args.at c.args.list.now ++ l)
    (channel_listed c.args.q.now c.args.b c.args.c c.from-channel.result c.from-block.result c.span-span.result c.args.baps.now c.from-channel.ensures c.from-block.ensures c.span-span.ensures.value (omega (arith, c.span-span.ensures.some)) c.requires.pointers c.requires.channel c.requires.block)
