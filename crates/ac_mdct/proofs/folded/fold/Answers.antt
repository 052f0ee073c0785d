use Rattle.std.proofs.Common.{◌-◌, ◌∙◌, arith}
use Rattle.ac_mdct.proofs.Folds.{folded_low, folded_place}
use Rattle.ac_mdct.proofs.folded.fold.Goals as goal

pub returns-clause-low : goal.returns-clause-low
returns-clause-low c = λ n low. c.loop-i.invariant.1 n (omega arith) ∙ folded_low c.args.v.now n low

pub returns-clause-high : goal.returns-clause-high
returns-clause-high c = λ n from below. c.loop-i.invariant.1 (n - 128) (omega arith) ∙ folded_place c.args.v.now n from
