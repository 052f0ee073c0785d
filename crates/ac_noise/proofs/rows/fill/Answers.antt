use Rattle.std.proofs.Common.{◌≡◌, ◌∙◌, ◌<◌, ◌+◌, ◌*◌, ◌^◌, ◌*ℤ◌, ℕ, ℤ, pos, length, length-set, SFits, w32, refl, rules, ap, subst, arith}
use Rattle.std.proofs.lemmas.Int.{to_z-of_z}
use Rattle.ac_noise.specs.Noise.{left_by, right_by, state_at}
use Rattle.ac_noise.specs.State.{IsFilled}
use Rattle.ac_noise.proofs.Drawn.{left_later, right_later, two_later}
use Rattle.ac_noise.proofs.Filling.{filled_more, filled_none}
use Rattle.ac_noise.proofs.rows.fill.Goals as goal

pub loop-t-init : goal.loop-t-init
unfolding state_at
loop-t-init c = (refl, c.told-left, c.told-right, filled_none _ _, filled_none _ _)

pub loop-t-preserved : goal.loop-t-preserved
loop-t-preserved c =
    let t = c.loop-t.t in
    let x = c.args.x in
    let g = 2 ^ c.args.step in
    let s = c.sample_of-both in
    let here = c.loop-t.invariant.0 in
    let place : t + 0 ≡ t = omega arith in
    let left : s.result.left ≡ left_by g x t *ℤ pos 256 =
    s.ensures.left ∙ ap (λ (y : ℕ). left_by g y 0 *ℤ pos 256) here ∙ ap (λ (v : ℤ). v *ℤ pos 256) (left_later g x t 0)
    ∙ ap (λ (n : ℕ). left_by g x n *ℤ pos 256) place in
    let right : s.result.right ≡ right_by g x t *ℤ pos 256 =
    s.ensures.right ∙ ap (λ (y : ℕ). right_by g y 0 *ℤ pos 256) here ∙ ap (λ (v : ℤ). v *ℤ pos 256) (right_later g x t 0)
    ∙ ap (λ (n : ℕ). right_by g x n *ℤ pos 256) place in
    let state : s.result.x ≡ state_at x (2 * (t + 1)) = s.ensures.state ∙ ap (λ (y : ℕ). state_at y 2) here ∙ two_later x t in
    let long_left = c.loop-t.invariant.1 in
    let long_right = c.loop-t.invariant.2 in
    let room_left : t < length c.loop-t.left = omega arith in
    let room_right : t < length c.loop-t.right = omega arith in
    let fits_left : SFits w32 s.result.left = search rules in
    let fits_right : SFits w32 s.result.right = search rules in
    simp to_z-of_z (
      state,
      length-set c.loop-t.left t s.result.left ∙ long_left,
      length-set c.loop-t.right t s.result.right ∙ long_right,
      filled_more t (λ n. left_by g x n *ℤ pos 256) c.args.left.now c.loop-t.left s.result.left room_left c.loop-t.invariant.3 left s.ensures.bound_left,
      filled_more t (λ n. right_by g x n *ℤ pos 256) c.args.right.now c.loop-t.right s.result.right room_right c.loop-t.invariant.4 right s.ensures.bound_right,
    )

pub returns-clause-left : goal.returns-clause-left
returns-clause-left c =
    let last : c.loop-t.t ≡ c.args.end = omega arith in
    subst (λ (n : ℕ). IsFilled n (λ t. left_by (2 ^ c.args.step) c.args.x t *ℤ pos 256) c.args.left.now c.loop-t.left) last c.loop-t.invariant.3

pub returns-clause-right : goal.returns-clause-right
returns-clause-right c =
    let last : c.loop-t.t ≡ c.args.end = omega arith in
    subst (λ (n : ℕ). IsFilled n (λ t. right_by (2 ^ c.args.step) c.args.x t *ℤ pos 256) c.args.right.now c.loop-t.right) last c.loop-t.invariant.4

pub returns-clause-state : goal.returns-clause-state
returns-clause-state c =
    let last : c.loop-t.t ≡ c.args.end = omega arith in
    subst (λ (n : ℕ). c.loop-t.state ≡ state_at c.args.x (2 * n)) last c.loop-t.invariant.0
