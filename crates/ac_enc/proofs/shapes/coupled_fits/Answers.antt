use Rattle.ac_enc.specs.Sounds.{layout_in}
use Rattle.ac_enc.proofs.Cheapest.{coupled_tested}
use Rattle.ac_enc.proofs.shapes.coupled_fits.Goals as goal

pub returns-in-Some : goal.returns-in-Some
returns-in-Some c =
    let o = c.args.options.now in
    let l = layout_in c.args.sound.now in
    coupled_tested o l c.args.words c.in-Some.coupled c.cheapest_fits.result c.in-Some.ensures (c.cheapest_fits.ensures o l c.args.words)
