use Rattle.std.proofs.Common.{◌-◌, arith}
use Rattle.ac_cert_text.specs.Text.{fields_of}
use Rattle.ac_cert_print.specs.Pages.{page}
use Rattle.ac_cert_print.proofs.Ends.{no-lines, level-wrote, end-wrote}
use Rattle.ac_cert_print.proofs.levels.levels.Goals as goal

pub loop-lines-init : goal.loop-lines-init
loop-lines-init g c = record {
  left = omega arith;
  wrote = no-lines (fields_of c.args.shape.now) c.args.count c.args.all.now (page g.O.Sink.held g.O.Sink.faults c.args.pen.now c.args.out.now);
}

pub loop-lines-preserved : goal.loop-lines-preserved
loop-lines-preserved g c =
    let l = c.loop-lines in
    let a = page g.O.Sink.held g.O.Sink.faults c.args.pen.now c.args.out.now in
    let b = page g.O.Sink.held g.O.Sink.faults l.pen l.out in
    let e = page g.O.Sink.held g.O.Sink.faults c.level.new.pen c.level.new.out in
    record {
      left = omega arith;
      wrote = level-wrote (fields_of c.args.shape.now) c.args.count l.lines-index (l.left - 1) c.args.all.now c.lines-item.result a b e c.loop-lines-test.true (omega arith) c.lines-item.is l.invariant.wrote c.level.ensures;
    }

pub returns : goal.returns
returns g c =
    let l = c.loop-lines in
    let a = page g.O.Sink.held g.O.Sink.faults c.args.pen.now c.args.out.now in
    let b = page g.O.Sink.held g.O.Sink.faults l.pen l.out in
    let e = page g.O.Sink.held g.O.Sink.faults c.word.new.self c.word.new.out in
    end-wrote (fields_of c.args.shape.now) c.args.count l.lines-index c.args.all.now a b e c.requires c.loop-lines-test.false l.invariant.wrote c.word.ensures
