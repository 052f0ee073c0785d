use Rattle.std.proofs.Common.{subst}
use Rattle.ac_base.specs.declared.shapes.Shape.{Shape}
use Rattle.ac_windows.specs.Windows.{IsWindow}
use Rattle.ac_ways.proofs.bracket.look.Goals as goal

pub returns : goal.returns
returns c =
    let raw = c.args.rows.now.raw in
    let window = subst (λ (s : Shape). IsWindow s raw c.args.t0 c.window.new.out.six) c.requires.same c.window.ensures.value in
    record { window = window; ways = c.ways.ensures.value raw c.args.t0 window; totals = c.totals.ensures }
