use Rattle.std.proofs.Common.{List, subst}
use Rattle.ac_claim.specs.declared.certs.Level.{Level}
use Rattle.std.specs.Prelude.{option_map}
use Rattle.ac_cert_text.specs.Codec.{after, pair}
use Rattle.ac_cert_text.specs.Text.{text, fields_of, over, pots_of, offsets_of}
use Rattle.ac_cert_print.specs.Pages.{page, Wrote}
use Rattle.ac_cert_print.proofs.Writing.{then}
use Rattle.ac_cert_print.proofs.whole.lines.Goals as goal

pub returns : goal.returns
unfolding text after pair
returns g c =
    let cert = c.args.cert.now in
    let a = page g.O.Sink.held g.O.Sink.faults c.top.new.pen c.top.new.out in
    let b = page g.O.Sink.held g.O.Sink.faults c.over.new.pen c.over.new.out in
    let last = subst (λ (l : List Level). Wrote ((over (fields_of cert.shape) cert.top).spell (option_map pots_of cert.over, offsets_of l)) a b) c.as_slice.ensures c.over.ensures in
    then c.word.ensures (then c.shape_line.ensures (then c.raws.ensures (then c.claim.ensures (then c.words.ensures (then c.top.ensures last)))))
