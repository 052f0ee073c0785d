use Rattle.std.proofs.Common.{◌≡◌, ◌<◌, ◌+◌, ◌-◌, ◌^◌, ℕ, subst, arith}
use Rattle.std.proofs.lemmas.Nat.{shr_below}
use Rattle.ac_bits.proofs.tests.front.Goals as goal

pub returns : goal.returns
returns c =
    let e : 32 ≡ c.args.width + (32 - c.args.width) = omega arith in
    let h : c.args.number < 2 ^ 32 = omega arith in
    shr_below c.args.number c.args.width (32 - c.args.width) (subst (λ (n : ℕ). c.args.number < 2 ^ n) e h)
