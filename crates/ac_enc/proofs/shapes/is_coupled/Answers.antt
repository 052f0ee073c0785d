use Rattle.std.proofs.Common.{Some, None}
use Rattle.ac_energy.specs.Coefficients.{entry}
use Rattle.ac_enc.proofs.Cheapest.{decided}
use Rattle.ac_enc.proofs.shapes.is_coupled.Goals as goal

pub returns : goal.returns
returns c = λ o l words range usable plain coupled.
    decided o l words (entry c.args.coefs.now.c) range c.args.coupled.now c.cheapest_fits.result c.couples.result c.cheapest_fits-2.result c.is_taken.result usable coupled
    (c.cheapest_fits.ensures o l words (Some range) coupled) c.couples.ensures (c.cheapest_fits-2.ensures o l words None plain) c.is_taken.ensures
