use Rattle.std.proofs.Common.{◌≡◌, ◌+◌, ◌*◌, ◌/◌, ◌≤◌, ◌∙◌, subst, sym}
use Rattle.ac_base.specs.Spans.{width, groups_of}
use Rattle.ac_levels.proofs.Stepping.{window_fits}
use Rattle.ac_levels.proofs.steps.window.Goals as goal

pub returns-clause-bound : goal.returns-clause-bound
returns-clause-bound c =
    let same : c.from.result ≡ groups_of c.args.kind c.args.span.now = c.from.ensures ∙ c.groups.ensures.value in
    subst (λ x. (3 * x + 16) / 16 * 16 * width c.args.kind ≤ 256) (sym same) (window_fits c.args.kind c.args.span.now c.requires.span c.requires.kind)
