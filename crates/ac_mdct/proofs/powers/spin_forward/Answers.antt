use Rattle.std.proofs.Common.{◌≡◌, ◌<◌, ◌^◌, pos, length, slice_index_or, SFits, w32, rules, ap, ◌∙◌, arith}
use Rattle.std.proofs.lemmas.Int.{to_z-of_z}
use Rattle.ac_mdct.specs.Powers.{forward_pick, forward_spun}
use Rattle.ac_mdct.proofs.More.{lists_more, within_more}
use Rattle.ac_mdct.proofs.Spins.{forward_below}
use Rattle.ac_mdct.proofs.powers.spin_forward.Goals as goal

pub loop-b-preserved : goal.loop-b-preserved
loop-b-preserved c =
    let b = c.loop-b.b in
    let u = c.args.u.now in
    let fits : SFits w32 c.picked.result = search rules in
    let value : c.picked.result ≡ forward_spun c.args.u.now c.loop-b.b =
    c.picked.ensures.value
    ∙ ap (λ i. slice_index_or c.forward_signs.new.out i (pos 0)) c.forward_entry.ensures
    ∙ c.forward_signs.ensures.value (forward_pick b) (forward_below b (omega arith)) in
    let room : c.loop-b.b < length c.loop-b.out = omega arith in (
      search rules,
      simp to_z-of_z (lists_more (forward_spun u) b c.loop-b.out c.picked.result room c.loop-b.invariant.1 value),
      simp to_z-of_z (within_more (2 ^ 24) b c.loop-b.out c.picked.result room c.loop-b.invariant.2 c.picked.ensures.bound),
    )
