use Rattle.std.proofs.Common.{arith, subst, sym, ◌^◌, ◌<◌, ℕ}
use Rattle.ac_separation.proofs.Subbands.{factor_bound}
use Rattle.ac_separation.proofs.scale.factor_in.Goals as goal

pub returns-clause-bound : goal.returns-clause-bound
returns-clause-bound c =
    subst (λ (v : ℕ). v < 2 ^ 19) (sym c.factor.ensures.value) (factor_bound c.field.result c.field-2.result (omega (arith, c.field.ensures)) (omega (arith, c.field-2.ensures)))
