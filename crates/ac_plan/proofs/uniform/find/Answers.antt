use Rattle.std.proofs.Common.{◌≡◌, ℕ, List, refl, sym, subst, ◌∙◌, ap, inl, inr, arith}
use Rattle.std.proofs.lemmas.Bool.{cases_lt}
use Rattle.ac_expo.specs.Words.{word_list}
use Rattle.ac_plan.specs.Uniform.{IsUniformBy}
use Rattle.ac_plan.proofs.Uniforms.{no_word}
use Rattle.ac_plan.proofs.uniform.find.Goals as goal

pub loop-i-preserved : goal.loop-i-preserved
loop-i-preserved g c =
    λ i assign l by fits. elim (cases_lt i c.loop-i.i) [
      | inl less ↦ c.loop-i.invariant i assign less by fits
      | inr more ↦
          let here : i ≡ c.loop-i.i = omega arith in
          let word : c.word_at.result ≡ word_list i = c.word_at.ensures ∙ ap word_list (sym here) in
          let mine = subst (λ (w : List ℕ). IsUniformBy c.args.shape.now w assign) (sym word) by in
          c.in_default.ensures.none refl assign mine fits
    ]

pub returns-clause-none : goal.returns-clause-none
returns-clause-none g c =
    λ e. no_word c.args.shape.now (g.C.RunCosts.offset c.args.costs.now).raw (g.C.RunCosts.offset c.args.costs.now).t
    (λ i assign l. c.loop-i.invariant i assign (omega (arith, l, c.loop-i-test.false)))
