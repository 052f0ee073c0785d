use Rattle.std.proofs.Common.{arith}
use Rattle.std.proofs.lemmas.Int.{ints}
use Rattle.std.proofs.lemmas.Nat.{one_shl}
use Rattle.ac_base.proofs.Powers.{pow_le}
use Rattle.ac_mant.proofs.quantiser.power.Goals as goal

pub returns-clause-bound : goal.returns-clause-bound
returns-clause-bound c = pow_le c.args.k 24 (omega arith)

pub returns-clause-value : goal.returns-clause-value
returns-clause-value c =
    let bound = pow_le c.args.k 24 (omega arith) in
    omega (arith, ints, one_shl c.args.k 32 (omega arith))
