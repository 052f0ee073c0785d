use Rattle.std.proofs.lemmas.Int.{to_z-of_z}
use Rattle.ac_rematrix.proofs.Everywhere.{small_put}
use Rattle.ac_separation.proofs.tests.put.Goals as goal

pub returns : goal.returns
returns c =
    let fits = c.ranges.x in
    simp to_z-of_z (small_put c.args.coefs.now.c c.args.c 1 c.args.k c.args.x c.requires.small c.requires.before)
