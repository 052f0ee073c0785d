use Rattle.std.proofs.Common.{sym}
use Rattle.ac_words.specs.Asked.{texts_of}
use Rattle.ac3.specs.Deeds.{all_compared, one_file}
use Rattle.ac3.specs.Ends.{world_of}
use Rattle.ac3.proofs.Opens.{opened}
use Rattle.ac3.proofs.perform.open_apart.Goals as goal

pub returns-then-is_shared : goal.returns-then-is_shared
returns-then-is_shared g c =
    let a = c.compare-answers.result in
    (all_compared (texts_of c.args.named) a, c.compare-answers.ensures, one_file a (sym c.if-is_shared.ensures))

pub returns : goal.returns
returns g c =
    opened (texts_of c.args.named) c.compare-answers.result _ _ _ c.open_all.result
    (world_of g.D.Input.Source.left g.D.Input.Source.faults g.D.Output.Sink.held g.D.Output.Sink.faults g.D.Report.Sink.held g.D.Report.Sink.faults)
    (sym c.if-is_shared.ensures) c.compare-answers.ensures c.open_all.ensures
