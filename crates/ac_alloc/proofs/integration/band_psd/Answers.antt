use Rattle.std.proofs.Common.{arith}
use Rattle.ac_base.proofs.AllocationTables.{starts_near, starts_grow}
use Rattle.ac_alloc.proofs.Folds.{bndpsd_meets}
use Rattle.ac_alloc.proofs.integration.band_psd.Goals as goal

pub overflow_sub-last : goal.overflow_sub-last
overflow_sub-last c = omega (arith, starts_grow c.args.b c.requires.band)

pub fold_bins-requires-clause-order : goal.fold_bins-requires-clause-order
fold_bins-requires-clause-order c = omega (arith, starts_grow c.args.b c.requires.band)

pub fold_bins-requires-clause-near : goal.fold_bins-requires-clause-near
fold_bins-requires-clause-near c =
    omega (arith, starts_near c.args.b c.requires.band, starts_grow c.args.b c.requires.band)

pub returns-then-start-after-clause-value : goal.returns-then-start-after-clause-value
returns-then-start-after-clause-value c =
    let v = c.fold_bins.ensures.value in
    let a = c.max-first.ensures in
    let b = c.min-last.ensures in
    let p = bndpsd_meets c.args.start c.args.end c.args.exps.now c.args.b (omega arith) (omega arith) in
    cc
