use Rattle.std.proofs.Common.{Some, None, inl, inr}
use Rattle.ac_energy.specs.Coefficients.{entry}
use Rattle.ac_enc.specs.Sounds.{layout_in}
use Rattle.ac_enc.proofs.Cheapest.{to_shape, plain_fits, uncoupled, coupled_at}
use Rattle.ac_enc.proofs.OneShape.{no_range}
use Rattle.ac_enc.proofs.shapes.shape_for.Goals as goal

pub returns-then-is_coupled-clause-shape : goal.returns-then-is_coupled-clause-shape
returns-then-is_coupled-clause-shape c =
    let o = c.args.options.now in
    let l = layout_in c.args.sound.now in
    let is = c.in-Some.ensures in
    let couples = (c.is_coupled.ensures o l c.args.words is.range is.usable c.plain_shape-plain.ensures is.shaped).0 c.if-is_coupled.true in
    inl (is.range, couples, is.shaped)

pub returns-then-is_coupled-clause-cheapest : goal.returns-then-is_coupled-clause-cheapest
returns-then-is_coupled-clause-cheapest c = λ raw.
    let o = c.args.options.now in
    let l = layout_in c.args.sound.now in
    let is = c.in-Some.ensures in
    let couples = (c.is_coupled.ensures o l c.args.words is.range is.usable c.plain_shape-plain.ensures is.shaped).0 c.if-is_coupled.true in
    to_shape o l c.args.words (Some is.range) c.in-Some.coupled raw is.shaped couples.fits

pub returns-else-is_coupled-clause-shape : goal.returns-else-is_coupled-clause-shape
returns-else-is_coupled-clause-shape c =
    let o = c.args.options.now in
    let l = layout_in c.args.sound.now in
    let x = entry c.args.coefs.now.c in
    let plain = c.plain_shape-plain.ensures in
    inr (uncoupled o l c.args.words x c.in-Some.coupled c.is_coupled.result c.in-Some.ensures (λ range usable is. c.is_coupled.ensures o l c.args.words range usable plain is) c.if-is_coupled.false, plain)

pub returns-else-is_coupled-clause-cheapest : goal.returns-else-is_coupled-clause-cheapest
returns-else-is_coupled-clause-cheapest c = λ raw.
    let o = c.args.options.now in
    let l = layout_in c.args.sound.now in
    let x = entry c.args.coefs.now.c in
    let plain = c.plain_shape-plain.ensures in
    let none = uncoupled o l c.args.words x c.in-Some.coupled c.is_coupled.result c.in-Some.ensures (λ range usable is. c.is_coupled.ensures o l c.args.words range usable plain is) c.if-is_coupled.false in
    let fits = plain_fits o l c.args.words x c.plain_shape-plain.result plain c.requires.size c.requires.least (coupled_at o l c.args.words c.in-Some.coupled c.in-Some.ensures) none c.requires.enough in
    to_shape o l c.args.words None c.plain_shape-plain.result raw plain fits

pub returns-in-None-clause-cheapest : goal.returns-in-None-clause-cheapest
returns-in-None-clause-cheapest c = λ raw.
    let o = c.args.options.now in
    let l = layout_in c.args.sound.now in
    let x = entry c.args.coefs.now.c in
    let plain = c.plain_shape-plain.ensures in
    let none = c.in-None.ensures in
    let fits = plain_fits o l c.args.words x c.plain_shape-plain.result plain c.requires.size c.requires.least (λ range usable. absurd (no_range o l range none usable)) (λ range couples. no_range o l range none couples.usable) c.requires.enough in
    to_shape o l c.args.words None c.plain_shape-plain.result raw plain fits
