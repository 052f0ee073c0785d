use Rattle.std.proofs.Common.{◌<◌, ℕ, [], ◌∷◌, subst, sym, arith}
use Rattle.ac_mant.proofs.Coming.{coming_below}
use Rattle.ac_mant.proofs.packing.triple_at.Goals as goal

pub triple_of-requires-clause-first : goal.triple_of-requires-clause-first
triple_of-requires-clause-first c =
    let some : 0 < c.args.levels = omega (arith, c.requires.code) in
    subst (λ (k : ℕ). k < c.args.levels) (sym c.two_of.ensures.first)
    (coming_below c.args.x.bap c.args.levels c.args.rest.now (0 ∷ 0 ∷ []) 0 c.requires.pointer c.requires.others (some, (some, some)))

pub triple_of-requires-clause-second : goal.triple_of-requires-clause-second
triple_of-requires-clause-second c =
    let some : 0 < c.args.levels = omega (arith, c.requires.code) in
    subst (λ (k : ℕ). k < c.args.levels) (sym c.two_of.ensures.second)
    (coming_below c.args.x.bap c.args.levels c.args.rest.now (0 ∷ 0 ∷ []) 1 c.requires.pointer c.requires.others (some, (some, some)))
