use Rattle.std.proofs.Common.{◌<◌, ℕ, [], ◌∷◌, subst, sym, arith}
use Rattle.ac_mant.proofs.Coming.{coming_below}
use Rattle.ac_mant.proofs.packing.pair_at.Goals as goal

pub pair_of-requires-clause-behind : goal.pair_of-requires-clause-behind
pair_of-requires-clause-behind c =
    let some : 0 < 11 = omega arith in
    subst (λ (k : ℕ). k < 11) (sym c.one_of.ensures)
    (coming_below c.args.x.bap 11 c.args.rest.now (0 ∷ []) 0 c.requires.pointer c.requires.others (some, some))
