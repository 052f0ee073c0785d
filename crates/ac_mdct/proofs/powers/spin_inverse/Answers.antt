use Rattle.std.proofs.Common.{◌≡◌, ◌<◌, ◌^◌, pos, length, slice_index_or, SFits, w32, rules, ap, ◌∙◌, arith}
use Rattle.std.proofs.lemmas.Int.{to_z-of_z}
use Rattle.ac_mdct.specs.Powers.{inverse_pick, inverse_spun}
use Rattle.ac_mdct.proofs.More.{lists_more, within_more}
use Rattle.ac_mdct.proofs.Spins.{inverse_below}
use Rattle.ac_mdct.proofs.powers.spin_inverse.Goals as goal

pub loop-b-preserved : goal.loop-b-preserved
loop-b-preserved c =
    let b = c.loop-b.b in
    let u = c.args.u.now in
    let fits : SFits w32 c.picked.result = search rules in
    let value : c.picked.result ≡ inverse_spun c.args.u.now c.loop-b.b =
    c.picked.ensures.value
    ∙ ap (λ i. slice_index_or c.inverse_signs.new.out i (pos 0)) c.inverse_entry.ensures
    ∙ c.inverse_signs.ensures.value (inverse_pick b) (inverse_below b (omega arith)) in
    let room : c.loop-b.b < length c.loop-b.out = omega arith in (
      search rules,
      simp to_z-of_z (lists_more (inverse_spun u) b c.loop-b.out c.picked.result room c.loop-b.invariant.1 value),
      simp to_z-of_z (within_more (2 ^ 24) b c.loop-b.out c.picked.result room c.loop-b.invariant.2 c.picked.ensures.bound),
    )
