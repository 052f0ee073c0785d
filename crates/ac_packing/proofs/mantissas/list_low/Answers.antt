use Rattle.std.proofs.Common.{◌-◌, ◌∷◌, [], Bool, take, ap}
use Rattle.std.specs.Prelude.{if◌then◌else◌}
use Rattle.ac_expo.specs.Raw.{channel_span}
use Rattle.ac_sent.specs.Fields.{low_number}
use Rattle.ac_packing.specs.Listing.{mantissa_at, low_of}
use Rattle.ac_packing.proofs.Listing.{none_listed, one_listed, low_last}
use Rattle.ac_packing.proofs.mantissas.list_low.Goals as goal

pub returns-then-q-clause-list : goal.returns-then-q-clause-list
returns-then-q-clause-list c =
    let shape = c.args.q.now.shape in
    one_listed (channel_span shape) (mantissa_at c.args.q.now c.args.b) (take c.args.at c.args.list.now) (take c.list_channel.result c.list_channel.new.list) (low_of shape) (c.coded.result - 1) (low_number shape)
    (low_last shape c.coded.result c.if-q.true c.coded.ensures.value) (ap (λ (low : Bool). if low then low_number shape ∷ [] else []) c.if-q.true) c.list_channel.ensures.list

pub returns-else-q-clause-list : goal.returns-else-q-clause-list
returns-else-q-clause-list c =
    let shape = c.args.q.now.shape in
    none_listed (channel_span shape) (mantissa_at c.args.q.now c.args.b) (take c.args.at c.args.list.now) (low_of shape) (ap (λ (low : Bool). if low then low_number shape ∷ [] else []) c.if-q.false)
