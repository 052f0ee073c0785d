use Rattle.std.proofs.Common.{◌^◌, ◌<◌, ℕ, ℤ, unsigned_abs, sym, subst, arith}
use Rattle.ac_energy.specs.Coefficients.{entry}
use Rattle.ac_coupling.proofs.Sums.{mean_small}
use Rattle.ac_coupling.proofs.means.means.Goals as goal

pub returns-clause-small : goal.returns-clause-small
returns-clause-small c =
    λ (b k : ℕ) block from below.
    let small = mean_small c.args.full (entry c.args.coefs.now.c) b k c.requires.some (λ i there. c.requires.small i there b k block from below) in
    subst (λ (z : ℤ). unsigned_abs z < 2 ^ 24) (sym (c.loop-b.invariant.1 b k (omega arith) from below)) small
