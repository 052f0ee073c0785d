use Rattle.std.proofs.Common.{◌+◌, ◌++◌, ℕ, ap₂, ◌∙◌, arith}
use Rattle.ac_bits.specs.Bits.{bits}
use Rattle.ac_bits.proofs.Laws.{put_fits, put_joins}
use Rattle.ac_mant.proofs.pen.gathered.Goals as goal

pub returns-then-used-width-le32-clause-same : goal.returns-then-used-width-le32-clause-same
returns-then-used-width-le32-clause-same c =
    let a = c.args in
    let fits = put_fits a.held a.used a.value a.width c.requires.fits c.requires.value (omega arith) in
    ap₂ (λ (m n : ℕ). a.sink.now ++ bits (m + n) (a.used + a.width)) fits.0 c.from.ensures
    ∙ put_joins a.sink.now a.held a.used a.value a.width c.requires.value

pub returns-then-used-width-le32-clause-fits : goal.returns-then-used-width-le32-clause-fits
returns-then-used-width-le32-clause-fits c =
    let a = c.args in
    let fits = put_fits a.held a.used a.value a.width c.requires.fits c.requires.value (omega arith) in
    omega (arith, fits.1, c.from.ensures)
