use Rattle.std.proofs.Common.{◌∷◌, [], ℕ, Option, take, ap}
use Rattle.std.specs.Prelude.{is_some, if◌then◌else◌}
use Rattle.ac_base.specs.Shape.{full_of}
use Rattle.ac_expo.specs.Raw.{channel_span}
use Rattle.ac_packing.specs.Listing.{mantissa_at, coupling_of}
use Rattle.ac_packing.proofs.Listing.{none_listed, one_listed}
use Rattle.ac_packing.proofs.mantissas.list_coupling.Goals as goal

pub returns-in-Some-clause-list : goal.returns-in-Some-clause-list
returns-in-Some-clause-list c =
    let shape = c.args.q.now.shape in
    one_listed (channel_span shape) (mantissa_at c.args.q.now c.args.b) (take c.args.at c.args.list.now) (take c.list_channel.result c.list_channel.new.list) (coupling_of shape) c.full.result (full_of shape.acmod)
    c.full.ensures.value (ap (λ (o : Option (ℕ × ℕ)). if is_some o then full_of shape.acmod ∷ [] else []) c.in-Some.is) c.list_channel.ensures.list

pub returns-in-None-clause-list : goal.returns-in-None-clause-list
returns-in-None-clause-list c =
    let shape = c.args.q.now.shape in
    none_listed (channel_span shape) (mantissa_at c.args.q.now c.args.b) (take c.args.at c.args.list.now) (coupling_of shape) (ap (λ (o : Option (ℕ × ℕ)). if is_some o then full_of shape.acmod ∷ [] else []) c.in-None.is)
