use Rattle.std.proofs.Common.{ℕ, ◌<◌, List}
use Rattle.ac_expo.specs.Words.{word_list}
use Rattle.ac_cost.specs.Parts.{FitsAt}
use Rattle.ac_plan.specs.Uniform.{IsUniformBy}
use Rattle.ac_plan.proofs.uniform.find.Given as goal

abbrev pub invariant-loop-i : goal.invariant-loop-i
invariant-loop-i g l =
    (i : ℕ) (assign : List (List ℕ)) → i < l.i → IsUniformBy l.shape (word_list i) assign → FitsAt l.shape (g.C.RunCosts.offset l.costs).raw (g.C.RunCosts.offset l.costs).t assign → ⊥
