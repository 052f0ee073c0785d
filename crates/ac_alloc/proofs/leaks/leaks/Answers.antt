use Rattle.std.proofs.Common.{◌≡◌, ◌<◌, ◌≤◌, ℕ, length, pos, slice_index, unsigned_abs, length-set, arith, ◌∙◌, SFits, w32, rules}
use Rattle.std.proofs.lemmas.Int.{to_z-of_z}
use Rattle.ac_alloc.proofs.Leaking.{so_far_next, so_far_none, so_far_more}
use Rattle.ac_alloc.proofs.Lists.{written_more}
use Rattle.ac_alloc.specs.Excitation.{leak_from}
use Rattle.ac_alloc.proofs.leaks.leaks.Goals as goal

pub loop-b-init : goal.loop-b-init
loop-b-init c =
    let P = λ (j : ℕ). slice_index c.args.bndpsd.now j in
    let fs : SFits w32 c.args.start = search rules in
    let s = so_far_none c.args.start P c.args.gain c.args.decay c.args.from in
    simp to_z-of_z (s, c.requires.start, λ k p q. absurd (omega arith), λ k p q. absurd (omega arith), search rules)

pub loop-b-preserved : goal.loop-b-preserved
loop-b-preserved c =
    let P = λ (j : ℕ). slice_index c.args.bndpsd.now j in
    let fs : SFits w32 c.args.start = search rules in
    let fr : SFits w32 c.next_leak-leak.result = search rules in
    let b = c.loop-b.b in
    let inv = simp to_z-of_z at c.loop-b.invariant in
    let inside : b < length c.loop-b.out = omega (arith, inv.4) in
    let v = so_far_next c.args.start P c.args.gain c.args.decay c.args.from b _ c.next_leak-leak.result (omega arith) inv.0 c.next_leak-leak.ensures.value in
    simp to_z-of_z (
      so_far_more c.args.start P c.args.gain c.args.decay c.args.from b c.next_leak-leak.result (omega arith) v,
      c.next_leak-leak.ensures.bound,
      written_more (λ k x. x ≡ leak_from c.args.start P c.args.gain c.args.decay c.args.from k) (pos 0) c.loop-b.out c.args.from b c.next_leak-leak.result inside inv.2 v,
      written_more (λ k x. unsigned_abs x ≤ 4416) (pos 0) c.loop-b.out c.args.from b c.next_leak-leak.result inside inv.3 c.next_leak-leak.ensures.bound,
      length-set c.loop-b.out b c.next_leak-leak.result ∙ inv.4,
    )
