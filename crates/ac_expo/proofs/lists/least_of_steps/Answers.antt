use Rattle.std.proofs.Common.{◌≡◌, ℕ, ◌+◌, ◌-◌, ◌<◌, ◌≤◌, min, length, slice_index, set, arith, ◌∙◌, sym, ap, length-set, subst}
use Rattle.std.proofs.lemmas.List.{get_or-replicate, length-replicate}
use Rattle.std.proofs.lemmas.Grind.{common_steps}
use Rattle.ac_expo.specs.Steps.{step_of}
use Rattle.ac_expo.specs.Greatest.{step_least}
use Rattle.ac_expo.proofs.Minima.{step_none, lowered, small_set, small_start}
use Rattle.ac_expo.proofs.lists.least_of_steps.Goals as goal

pub loop-k-init : goal.loop-k-init
loop-k-init c =
    (length-replicate {A = ℕ} 256 24, λ g h. get_or-replicate {A = ℕ} 256 g 24 0 h ∙ sym (step_none _ _ _ _ g (omega arith)), small_start)

pub loop-k-preserved : goal.loop-k-preserved
loop-k-preserved c =
    let steps = c.loop-k.steps in
    let span = c.args.span.now in
    let kind = c.args.kind in
    let k = c.loop-k.k in
    let f = slice_index c.args.bins.now in
    let at = step_of kind span k in
    let e : c.step-at.result ≡ at = c.step-at.ensures.value in
    let room : c.step-at.result < length steps = omega (arith, c.step-at.ensures.small) in
    let value : c.min.result ≡ min (slice_index steps c.step-at.result) (f k) = grind (arith, common_steps) in
    let small : c.min.result ≤ 24 = omega (arith, value, c.loop-k.invariant.2 c.step-at.result) in
    let P : ℕ → Type 0 = λ x. (g : ℕ) → g < 256 → slice_index (set steps x c.min.result) g ≡ step_least kind span f (k + 1 - span.start) g in
    let value_at : c.min.result ≡ min (slice_index steps at) (f k) = value ∙ ap (λ x. min (slice_index steps x) (f k)) e in (
      length-set steps c.step-at.result c.min.result ∙ c.loop-k.invariant.0,
      subst P (sym e) (lowered kind span f k c.min.result steps (omega arith) (omega arith) (omega (arith, c.step-at.ensures.small)) value_at c.loop-k.invariant.1),
      small_set steps c.step-at.result c.min.result room small c.loop-k.invariant.2,
    )
