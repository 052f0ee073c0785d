use Rattle.std.proofs.Common.{ℕ, ◌+◌, Option, ap, sym}
use Rattle.std.specs.Prelude.{option_map}
use Rattle.ac_bound.specs.declared.pots.Pots.{Pots}
use Rattle.ac_cert_text.specs.Codec.{absent, present, fork, pair}
use Rattle.ac_cert_text.specs.Text.{fields_of, levels, over, pots_of, offsets_of}
use Rattle.ac_cert_print.proofs.Writing.{then}
use Rattle.ac_cert_print.proofs.Spelling.{same}
use Rattle.ac_cert_print.proofs.levels.over.Goals as goal

pub returns-in-None : goal.returns-in-None
unfolding over absent present fork pair
returns-in-None g c =
    let f = fields_of c.args.shape.now in
    let all = offsets_of c.args.all.now in
    let none = ap (λ (o : Option Pots). (over f c.args.top).spell (option_map pots_of o, all)) c.in-None.is in
    let count = ap (λ (n : ℕ). (levels f (n + 1)).spell all) (sym c.from-count.ensures) in
    same none (same count c.levels.ensures)

pub returns-in-Some : goal.returns-in-Some
unfolding over absent present fork pair
returns-in-Some g c =
    let f = fields_of c.args.shape.now in
    let all = offsets_of c.args.all.now in
    let some = ap (λ (o : Option Pots). (over f c.args.top).spell (option_map pots_of o, all)) c.in-Some.is in
    let count = ap (λ (n : ℕ). (levels f (n + 1)).spell all) (sym c.from-count.ensures) in
    same some (then c.pots.ensures (same count c.levels-in-Some.ensures))
