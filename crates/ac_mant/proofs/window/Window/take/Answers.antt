use Rattle.std.proofs.Common.{◌<◌, ap, sym, ◌∙◌, arith, length}
use Rattle.std.proofs.Math.Nat.{pow-le-pow_right}
use Rattle.ac_bits.proofs.Laws.{top_fits}
use Rattle.ac_mant.proofs.Windows.{split, window_long}
use Rattle.ac_mant.proofs.window.Window.take.Goals as goal

pub returns-then-have-width-clause-out : goal.returns-then-have-width-clause-out
returns-then-have-width-clause-out c =
    let s = c.self.inside in
    let e = c.ready-held.ensures in
    (omega (arith, e.enough c.if-have-width.true, window_long s.held s.have s.source, ap length c.self.view_is), e.same ∙ c.self.view_is)

pub overflow_cast-result : goal.overflow_cast-result
overflow_cast-result c =
    let r = c.ready-held.result in
    let two : 0 < 2 = omega arith in
    omega (arith, pow-le-pow_right two c.requires, top_fits r.0 r.1 c.args.width c.ready-held.ensures.fits c.if-have-width.false)

pub returns-clause-taken : goal.returns-clause-taken
returns-clause-taken c =
    let s = c.self.inside in
    let r = c.ready-held.result in
    let e = c.ready-held.ensures in (
      top_fits r.0 r.1 c.args.width e.fits c.if-have-width.false,
      sym c.self.view_is ∙ (sym e.same ∙ split r.0 r.1 c.args.width c.ready-held.new.source e.fits c.if-have-width.false (omega (arith, e.have))),
    )
