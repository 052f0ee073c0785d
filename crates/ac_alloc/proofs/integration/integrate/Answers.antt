use Rattle.std.proofs.Common.{ℕ, arith, inl, inr, ◌∙◌, sym}
use Rattle.std.proofs.lemmas.Bool.{cases_lt}
use Rattle.std.proofs.lemmas.List.{get_or_past}
use Rattle.ac_alloc.proofs.Folds.{bndpsd_past}
use Rattle.ac_alloc.proofs.integration.integrate.Goals as goal

pub returns-clause-value : goal.returns-clause-value
returns-clause-value c =
    λ (b : ℕ). elim (cases_lt b 50) [
      | inl l ↦ c.loop-b.invariant.0 b (omega arith)
      | inr l ↦ get_or_past c.loop-b.out b 0 (omega (arith, c.loop-b.invariant.2)) ∙ sym (bndpsd_past c.args.start c.args.end c.args.exps.now b c.requires.inside (omega arith))
    ]
