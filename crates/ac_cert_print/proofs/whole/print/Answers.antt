use Rattle.ac_cert_text.specs.Text.{text, plain_of}
use Rattle.ac_cert_print.specs.Pages.{page}
use Rattle.ac_cert_print.proofs.Writing.{then_nothing, all-added, front-added}
use Rattle.ac_cert_print.proofs.whole.print.Goals as goal

pub returns-then-pen : goal.returns-then-pen
returns-then-pen g c =
    let a = page g.O.Sink.held g.O.Sink.faults c.new-pen.result c.args.out.now in
    let b = page g.O.Sink.held g.O.Sink.faults c.flush.new.self c.flush.new.out in
    let wrote = then_nothing c.lines.ensures c.flush.ensures.wrote in
    let stops = front-added (text.spell (plain_of c.args.cert.now)) a b c.new-pen.ensures.well c.new-pen.ensures.kept c.if-pen.true wrote in
    record {
      adds = tt;
      front = stops.front;
      rose = stops.rose;
      never_falls = wrote.never_falls;
    }

pub returns : goal.returns
returns g c =
    let a = page g.O.Sink.held g.O.Sink.faults c.new-pen.result c.args.out.now in
    let b = page g.O.Sink.held g.O.Sink.faults c.flush.new.self c.flush.new.out in
    let wrote = then_nothing c.lines.ensures c.flush.ensures.wrote in
    record {
      adds = all-added (text.spell (plain_of c.args.cert.now)) a b c.new-pen.ensures.well c.new-pen.ensures.kept c.if-pen.false (c.flush.ensures.none c.if-pen.false) wrote;
      front = tt;
      rose = tt;
      never_falls = wrote.never_falls;
    }
