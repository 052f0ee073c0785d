use Rattle.std.proofs.Common.{◌≡◌, ◌∙◌, ◌≤◌, ◌+◌, ◌*◌, ◌/◌, ◌^◌, ◌+ℤ◌, ◌*ℤ◌, ℕ, ℤ, pos, SFits, w32, rules, unsigned_abs, ap, ap₂, arith}
use Rattle.std.proofs.lemmas.Int.{to_z-of_z}
use Rattle.std.proofs.lemmas.Nat.{pow_pos}
use Rattle.byteorder.specs.Endian.{twos_complement}
use Rattle.ac_base.specs.Floor.{floor_div}
use Rattle.ac_noise.specs.Noise.{draw_at, next_of, state_at}
use Rattle.ac_noise.proofs.Floors.{sum_within, twice}
use Rattle.ac_noise.proofs.rows.sample_of.Goals as goal

pub scaled-requires-2-clause-small : goal.scaled-requires-2-clause-small
scaled-requires-2-clause-small c =
    let a = c.top-a.result in
    let b = c.top.result in
    let fits_a : SFits w32 a = search rules in
    let fits_b : SFits w32 b = search rules in
    let sum = sum_within a b c.top-a.ensures.bound c.top.ensures.bound in
    let fits_sum : SFits w32 (a +ℤ b) = search rules in
    let enough : unsigned_abs (a +ℤ b) ≤ 2 ^ (c.args.step + 1) * 32768 = omega (arith, sum, twice c.args.step, pow_pos c.args.step) in
    simp to_z-of_z enough

pub returns-clause-left : goal.returns-clause-left
unfolding state_at
returns-clause-left c =
    let fits : SFits w32 c.scaled.result = search rules in
    let fits_a : SFits w32 c.top-a.result = search rules in
    let value = simp to_z-of_z at c.scaled.ensures.value in
    let drawn : c.top-a.result ≡ draw_at c.args.x 0 = c.top-a.ensures.value ∙ ap (λ (s : ℕ). twos_complement 2 (s / 2 ^ 48)) c.next-first.ensures in
    simp to_z-of_z (value ∙ ap (λ (d : ℤ). floor_div d (2 ^ c.args.step) *ℤ pos 256) drawn)

pub returns-clause-right : goal.returns-clause-right
unfolding state_at
returns-clause-right c =
    let a = c.top-a.result in
    let b = c.top.result in
    let fits : SFits w32 c.scaled-2.result = search rules in
    let fits_a : SFits w32 a = search rules in
    let fits_b : SFits w32 b = search rules in
    let sum = sum_within a b c.top-a.ensures.bound c.top.ensures.bound in
    let fits_sum : SFits w32 (a +ℤ b) = search rules in
    let value = simp to_z-of_z at c.scaled-2.ensures.value in
    let first : a ≡ draw_at c.args.x 0 = c.top-a.ensures.value ∙ ap (λ (s : ℕ). twos_complement 2 (s / 2 ^ 48)) c.next-first.ensures in
    let second : b ≡ draw_at c.args.x 1 =
    c.top.ensures.value ∙ ap (λ (s : ℕ). twos_complement 2 (s / 2 ^ 48)) (c.next-second.ensures ∙ ap next_of c.next-first.ensures) in
    simp to_z-of_z (value ∙ ap (λ (g : ℕ). floor_div (a +ℤ b) g *ℤ pos 256) (twice c.args.step)
    ∙ ap₂ (λ (x y : ℤ). floor_div (x +ℤ y) (2 * 2 ^ c.args.step) *ℤ pos 256) first second)

pub returns-clause-state : goal.returns-clause-state
unfolding state_at
returns-clause-state c = c.next-second.ensures ∙ ap next_of c.next-first.ensures
