use Rattle.std.proofs.Common.{◌≡◌, ◌<◌, ◌^◌, ◌++◌, arith, rules}
use Rattle.ac_bits.specs.Bits.{bits}
use Rattle.ac_bits.proofs.Laws.{put_fits}
use Rattle.ac_mant.proofs.Windows.{joined}
use Rattle.ac_mant.proofs.window.ahead.Goals as goal

pub returns-in-Ok-clause-same : goal.returns-in-Ok-clause-same
returns-in-Ok-clause-same c =
    let fits : c.from.result < 2 ^ c.min-count.result = search rules in
    let old : c.args.source.now ≡ bits c.from.result c.min-count.result ++ c.take.new.self = search rules in
    joined c.args.held c.args.have c.from.result c.min-count.result c.args.source.now c.take.new.self c.requires.fits fits (omega arith) old

pub returns-in-Ok-clause-fits : goal.returns-in-Ok-clause-fits
returns-in-Ok-clause-fits c =
    let fits : c.from.result < 2 ^ c.min-count.result = search rules in
    (put_fits c.args.held c.args.have c.from.result c.min-count.result c.requires.fits fits (omega arith)).1
