use Rattle.std.proofs.Common.{◌*◌, ℕ, arith}
use Rattle.ac_masks.proofs.Adding.{added_by}
use Rattle.ac_masks.proofs.Banding.{sum_small}
use Rattle.ac_masks.proofs.additions.added.Goals as goal

pub returns-clause-value : goal.returns-clause-value
returns-clause-value c = added_by c.args.rises.now c.args.a c.args.level c.from.result c.from-2.result c.requires.table c.requires.bound (omega arith) c.from.ensures c.from-2.ensures

pub returns-clause-bound : goal.returns-clause-bound
returns-clause-bound c = λ (m : ℕ) p q.
    let v = added_by c.args.rises.now c.args.a c.args.level c.from.result c.from-2.result c.requires.table c.requires.bound (omega arith) c.from.ensures c.from-2.ensures in
    omega (arith, v, sum_small c.args.a (16 * c.args.level) m q p (omega arith))
