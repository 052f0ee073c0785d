use Rattle.std.proofs.Common.{◌≡◌, Some, None}
use Rattle.std.proofs.lemmas.Bool.{le-ltb, lt-ltb}
use Rattle.ac_codec.specs.declared.refused.Refused.TheVariants.{Reserved}
use Rattle.ac_codec.specs.Codec.{below}
use Rattle.ac_codec.proofs.Reading.{field_ok, field_refused, field_out}
use Rattle.ac_codec.proofs.read.limited.Goals as goal

pub returns-in-Ok : goal.returns-in-Ok
returns-in-Ok c =
    let lawful : below c.args.limit c.args.row c.in-Ok.v ≡ None = rw (lt-ltb c.in-Ok.v c.args.limit c.if-v-limit.true) in
    field_ok c.args.width c.in-Ok.v c.args.source.now c.take.new.self (below c.args.limit c.args.row) c.in-Ok.ensures.taken.0
    c.in-Ok.ensures.taken.1 lawful

pub returns-in-Ok-2 : goal.returns-in-Ok-2
returns-in-Ok-2 c =
    let refused : below c.args.limit c.args.row c.in-Ok.v ≡ Some (Reserved c.args.row) =
    rw (le-ltb c.in-Ok.v c.args.limit c.if-v-limit.false) in
    rw c.copy-before.ensures (field_refused c.args.width c.in-Ok.v c.args.source.now c.take.new.self (below c.args.limit c.args.row)
    (Reserved c.args.row) c.in-Ok.ensures.taken.0 c.in-Ok.ensures.taken.1 refused)

pub returns-in-Err : goal.returns-in-Err
returns-in-Err c =
    rw c.in-Err.ensures.out.1 (field_out c.args.width c.args.source.now (below c.args.limit c.args.row) c.in-Err.ensures.out.0)
