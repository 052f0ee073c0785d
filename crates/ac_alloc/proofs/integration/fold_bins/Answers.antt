use Rattle.std.proofs.Common.{◌≡◌, ℕ, ◌-◌, ◌+◌, ◌*◌, arith, ap}
use Rattle.ac_alloc.specs.Integration.{folded, psd}
use Rattle.ac_alloc.proofs.Folds.{folded_more, logadd_bound}
use Rattle.ac_alloc.proofs.integration.fold_bins.Goals as goal

pub loop-k-preserved : goal.loop-k-preserved
loop-k-preserved c =
    let f = λ (j : ℕ). psd c.args.exps.now j in
    let k = c.loop-k.k in
    let n = k - 1 - c.args.first in
    let m = folded_more f c.args.first n k (omega arith) in
    let e : k + 1 - 1 - c.args.first ≡ n + 1 = omega arith in
    let g = ap (folded f c.args.first) e in
    (cc, omega (arith, logadd_bound c.loop-k.sum c.psd.result (3072 + 64 * n) (omega arith) (omega arith)))
