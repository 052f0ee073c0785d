use Rattle.std.proofs.Common.{◌≡◌, ◌<◌, ◌+◌, ◌*◌, ℕ, length, slice_index, set, arith, ap, sym, ◌∙◌, subst}
use Rattle.std.proofs.lemmas.List.{length-replicate}
use Rattle.std.specs.Prelude.{replicate}
use Rattle.ac_expo.specs.Groups.{sum_to, reference}
use Rattle.ac_expo.specs.Sums.{AreSums}
use Rattle.ac_expo.proofs.Spellings.{sum_none}
use Rattle.ac_expo.proofs.Summed.{group_summed, with_group_long}
use Rattle.ac_expo.proofs.expanding.sums_of.Goals as goal

pub loop-place-init : goal.loop-place-init
loop-place-init c =
    let lead = c.args.lead in
    let s = c.args.spelled.now in
    let e : c.from-sum.result ≡ sum_to lead s 0 = c.from-sum.ensures ∙ c.before-2.ensures.value ∙ ap (reference lead) c.first.ensures ∙ sym (sum_none lead s) in (
      length-replicate {A = ℕ} 256 0,
      (λ g none. let z : g ≡ 0 = omega arith in let P : ℕ → Type 0 = λ x. slice_index (set (replicate {A = ℕ} 256 0) 0 c.from-sum.result) x ≡ sum_to lead s x in subst P (sym z) e),
      e,
      omega (arith, c.from-sum.ensures, c.before-2.ensures.bound),
    )

pub loop-place-preserved : goal.loop-place-preserved
loop-place-preserved c =
    let s = c.args.spelled.now in
    let is = c.loop-place.invariant in
    let room : c.loop-place.place < length s.groups = omega (arith, c.loop-place-test.true, c.len-place-end.ensures.value) in
    let at : 3 * c.from.result ≡ 3 * c.loop-place.place = ap (λ n. 3 * n) c.from.ensures in
    let next = group_summed c.args.lead s c.loop-place.sums (3 * c.from.result) c.loop-place.place c.group_at.result c.loop-place.sum at (omega (arith, is.0, room, c.len-place-end.ensures)) c.group_at.ensures is.2 is.1 in
    let e = c.put_group-sum.ensures.sums in (
      ap (λ l. length l) e ∙ with_group_long c.group_at.result (3 * c.from.result) c.loop-place.sum c.loop-place.sums ∙ is.0,
      subst (AreSums c.args.lead s (3 * (c.loop-place.place + 1))) (sym e) next.0,
      c.put_group-sum.ensures.last ∙ next.1,
      omega (arith, c.put_group-sum.ensures.bound, at),
    )
