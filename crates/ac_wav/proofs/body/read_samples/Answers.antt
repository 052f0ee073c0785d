use Rattle.std.proofs.Common.{◌≤◌, ◌<◌, ◌+◌, ◌/◌, ℕ, arith, sym, subst, length}
use Rattle.ac_wav.specs.Samples.{align_of, SamplesRead}
use Rattle.ac_wav.proofs.Rows.{samples_read}
use Rattle.ac_wav.proofs.body.read_samples.Goals as goal

pub returns-clause-told : goal.returns-clause-told
returns-clause-told g c = λ bytes start at e.
    let r = c.in_ok-n.ensures.told bytes at in
    let least : 0 < align_of c.args.head.now = omega (arith, c.align.ensures.value, c.align.ensures.least) in
    let fits : c.in_ok-n.n ≤ length c.read_part.new.piece = omega (arith, c.read_part.array_long, c.in_ok-n.ensures.fits) in
    let s = samples_read bytes c.args.head.now c.args.taken start c.in_ok-n.n c.read_part.new.piece c.spread.new.out _ c.requires.profile least e c.in_ok-n.ensures.count fits r c.spread.ensures.rows in
    subst (λ (a : ℕ). SamplesRead bytes c.args.head.now c.args.taken start (c.args.taken + c.in_ok-n.n) (c.in_ok-n.n / a) c.spread.new.out (g.S.Source.left c.read_part.new.input)) (sym c.align.ensures.value) s
