use Rattle.std.proofs.Common.{◌≡◌, ◌∷◌, [], List, ℕ, sym, subst, ◌∙◌}
use Rattle.ac_base.specs.Words.{IsWord}
use Rattle.ac_plan.proofs.Uniforms.{low_codes, low_each, low_is}
use Rattle.ac_plan.proofs.uniform.lows.Goals as goal

pub returns : goal.returns
returns c =
    let w = c.args.codes.now in
    let codes : List ℕ = c.low.result ∷ c.low-2.result ∷ c.low-3.result ∷ c.low-4.result ∷ c.low-5.result ∷ c.low-6.result ∷ [] in
    let same : codes ≡ low_codes w = λ i. c.low.ensures i ∷ c.low-2.ensures i ∷ c.low-3.ensures i ∷ c.low-4.ensures i ∷ c.low-5.ensures i ∷ c.low-6.ensures i ∷ [] in
    record {
      value = same ∙ low_each w c.requires.long;
      word = subst IsWord (sym same) (low_is w c.requires);
    }
