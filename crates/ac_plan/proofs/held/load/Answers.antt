use Rattle.std.proofs.Common.{subst, arith}
use Rattle.ac_base.specs.declared.shapes.Shape.{Shape}
use Rattle.ac_windows.specs.Windows.{IsWindow}
use Rattle.ac_plan.proofs.held.load.Goals as goal

pub returns-clause-held : goal.returns-clause-held
returns-clause-held c =
    let raw = c.args.rows.now.raw in
    let first = c.saturating_sub-held.result in
    let window = subst (λ (s : Shape). IsWindow s raw first c.window.new.out.six) c.requires.same c.window.ensures.value in
    record {
      first = omega (arith, c.saturating_sub-held.ensures, c.requires.top);
      window = window;
      ways = c.ways.ensures.value raw first window;
      reach = omega (arith, c.saturating_sub-held.ensures);
    }
