use Rattle.std.proofs.Common.{[], ◌∷◌}
use Rattle.ac_world.specs.World.{told}
use Rattle.ac3.specs.Deeds.{given, refused, input_of, output_of, report_file, no_input, no_output, no_report}
use Rattle.ac3.proofs.Deeds.{did_then}
use Rattle.ac3.proofs.perform.open_all.Goals as goal

pub returns-in_default : goal.returns-in_default
returns-in_default g c =
    (refused (input_of c.args.named.from.now) ∷ [], no_input, c.in_default.ensures)

pub returns-in_default-open_output : goal.returns-in_default-open_output
returns-in_default-open_output g c =
    let i = told g.D.Input.Source.left g.D.Input.Source.faults c.in-Ok.input in
    let opened = given (input_of c.args.named.from.now) i ∷ [] in
    let failed = refused (output_of c.args.named.to.now) ∷ [] in (
      given (input_of c.args.named.from.now) i ∷ failed,
      no_output i,
      did_then (g.D.Desk.done c.args.desk.now) (g.D.Desk.done c.open_input.new.desk) (g.D.Desk.done c.open_output.new.desk) opened failed c.in-Ok.ensures c.in_default-open_output.ensures,
    )

pub returns-in_default-open_report : goal.returns-in_default-open_report
returns-in_default-open_report g c =
    let i = told g.D.Input.Source.left g.D.Input.Source.faults c.in-Ok.input in
    let o = told g.D.Output.Sink.held g.D.Output.Sink.faults c.in-Ok-open_output.output in
    let first = given (input_of c.args.named.from.now) i ∷ [] in
    let second = given (output_of c.args.named.to.now) o ∷ [] in
    let failed = refused (report_file c.args.named.report.now) ∷ [] in
    let start = g.D.Desk.done c.args.desk.now in
    let one = g.D.Desk.done c.open_input.new.desk in
    let two = g.D.Desk.done c.open_output.new.desk in
    let last = g.D.Desk.done c.open_report.new.desk in (
      given (input_of c.args.named.from.now) i ∷ given (output_of c.args.named.to.now) o ∷ failed,
      no_report i o c.in_default-open_report.ensures.cause,
      did_then start one last first (given (output_of c.args.named.to.now) o ∷ failed) c.in-Ok.ensures
          (did_then one two last second failed c.in-Ok-open_output.ensures c.in_default-open_report.ensures.told),
    )
