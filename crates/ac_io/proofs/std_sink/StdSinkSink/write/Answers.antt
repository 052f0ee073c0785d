use Rattle.std.proofs.Common.{rules, arith}
use Rattle.ac_io.proofs.Written.{adds_more}
use Rattle.ac_io.proofs.std_sink.StdSinkSink.write.Goals as goal

pub loop-done-preserved : goal.loop-done-preserved
loop-done-preserved g c =
    let held = g.W.Write.contents in
    let piece = c.args.piece.now in
    let e = c.in_ok-done.ensures in
    record {
      within = omega (arith, e.count);
      faults = search rules;
      added = adds_more (held c.args.self.now.inner) (held c.loop-done.self.inner) (held c.write_some.new.self.inner) piece c.loop-done.done c.in_ok-done.field-0 c.loop-done.invariant.added (omega (arith, e.count)) e.bytes;
    }
