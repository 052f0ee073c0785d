use Rattle.ac_enc.proofs.Cheapest.{tested}
use Rattle.ac_enc.proofs.shapes.cheapest_fits.Goals as goal

pub returns : goal.returns
returns c = λ o l words couple is. tested o l words couple c.args.shape.now c.cheapest.result c.fit.result is c.cheapest.ensures.value c.fit.ensures.value
