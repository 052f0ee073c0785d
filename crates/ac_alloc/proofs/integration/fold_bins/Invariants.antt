use Rattle.std.proofs.Common.{◌≡◌, ◌-◌, ◌+◌, ◌*◌, ◌≤◌}
use Rattle.ac_alloc.specs.Integration.{folded, psd}
use Rattle.ac_alloc.proofs.integration.fold_bins.Given as goal

abbrev pub invariant-loop-k : goal.invariant-loop-k
invariant-loop-k l = (l.sum ≡ folded (λ k. psd l.exps k) l.first (l.k - 1 - l.first)) × (l.sum ≤ 3072 + 64 * (l.k - 1 - l.first))
