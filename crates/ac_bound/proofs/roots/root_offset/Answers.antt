use Rattle.std.proofs.Common.{ℕ, ◌≤◌, subst}
use Rattle.ac_cost.specs.Parts.{IsFeasible}
use Rattle.ac_cost.specs.Records.{Exponents}
use Rattle.ac_bound.proofs.roots.root_offset.Goals as goal

pub returns-clause-feasible : goal.returns-clause-feasible
returns-clause-feasible c =
    let P : Exponents → Type 0 = λ x. (t : ℕ) → t ≤ 1023 → IsFeasible c.args.shape.now x.raw t → t ≤ c.root.result in
    subst P c.of.ensures.value c.root.ensures.feasible
