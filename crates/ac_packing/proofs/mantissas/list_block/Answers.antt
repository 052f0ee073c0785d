use Rattle.std.proofs.Common.{take}
use Rattle.ac_packing.proofs.Listing.{all_listed}
use Rattle.ac_packing.proofs.mantissas.list_block.Goals as goal

pub returns-clause-list : goal.returns-clause-list
returns-clause-list c =
    all_listed c.args.q.now c.args.b
    (take c.list_channel-first.result c.list_channel-first.new.list) (take c.list_coupling-coupled.result c.list_coupling-coupled.new.list)
    (take c.list_later-full.result c.list_later-full.new.list) (take c.list_low.result c.list_low.new.list)
    c.list_channel-first.ensures.list c.list_coupling-coupled.ensures.list c.list_later-full.ensures.list c.list_low.ensures.list
