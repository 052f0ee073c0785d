use Rattle.std.proofs.Common.{◌≡◌, ◌≢◌, pos, to_z, of_z, w32, get_or-set_other, sym, ◌∙◌, refl, arith, rules}
use Rattle.std.proofs.lemmas.Int.{ints}
use Rattle.ac_base.specs.Quarter.{cosine_of}
use Rattle.ac_base.proofs.Rules.{Holds, pair_zero, pair_one, pair_more, pair_next, cosine_is, holds_more}
use Rattle.ac_base.proofs.Walk.{quarter_held}
use Rattle.ac_base.proofs.cosine_table.cosines.Goals as goal

pub loop-j-init : goal.loop-j-init
loop-j-init c =
    (refl, sym pair_zero, c.step_angle-step.ensures.value ∙ sym pair_one, omega arith, c.step_angle-step.ensures.bound, λ j none. absurd (omega arith), refl)

pub loop-j-preserved : goal.loop-j-preserved
loop-j-preserved c =
    let zero = pair_more c.loop-j.j in
    let one = pair_next c.loop-j.j in
    let entry = cosine_is c.loop-j.j in
    let angle = c.step_angle-step.ensures.value in
    let value : to_z w32 (of_z w32 c.rounded.result) ≡ pos (cosine_of c.loop-j.j) = omega (arith, ints) in
    let apart : 512 ≢ c.loop-j.j = omega arith in (
      search rules,
      cc,
      cc,
      omega arith,
      omega (arith, c.next-after.ensures),
      holds_more c.loop-j.j c.loop-j.table _ (search rules) c.loop-j.invariant.5 value,
      rw get_or-set_other c.loop-j.invariant.6,
    )

pub returns : goal.returns
returns c =
    let all : c.loop-j.j ≡ 512 = omega arith in
    let first : Holds 512 c.loop-j.table = rw all at c.loop-j.invariant.5 in
    quarter_held c.loop-j.table first c.loop-j.invariant.6
