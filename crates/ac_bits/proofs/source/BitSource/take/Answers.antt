use Rattle.std.proofs.Common.{◌<◌, ap, sym, ◌∙◌, arith, take, drop}
use Rattle.std.proofs.Math.Nat.{pow-le-pow_right}
use Rattle.ac_bits.specs.Bits.{bits_of}
use Rattle.ac_bits.proofs.Laws.{taken, top_fits}
use Rattle.ac_bits.proofs.source.BitSource.take.Goals as goal

pub overflow_cast-result : goal.overflow_cast-result
overflow_cast-result c =
    let r = c.fill-at.result in
    let two : 0 < 2 = omega arith in
    omega (arith, pow-le-pow_right two c.requires, top_fits r.1 r.2 c.args.width c.fill-at.ensures.fits c.fill-at.ensures.enough)

pub returns-clause-taken : goal.returns-clause-taken
returns-clause-taken c =
    let s = c.self.inside in
    let r = c.fill-at.result in
    let e = c.fill-at.ensures in (
      top_fits r.1 r.2 c.args.width e.fits e.enough,
      sym c.self.view_is ∙ (ap (take s.left) (sym e.same) ∙ taken s.left r.1 r.2 c.args.width (bits_of (drop r.0 s.bytes.now)) e.fits c.if-self-width.false e.enough (omega arith)),
    )
