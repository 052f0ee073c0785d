use Rattle.std.proofs.Common.{◌≡◌, ℕ, ◌+ℤ◌, unsigned_abs, SFits, w32, to_z, rules, ap, sym, ◌∙◌, arith}
use Rattle.std.proofs.lemmas.Int.{to_z-of_z}
use Rattle.ac_base.proofs.Sums.{abs_add, sigma_zero, sigma_more}
use Rattle.ac_energy.specs.Coefficients.{entry}
use Rattle.ac_coupling.proofs.means.sum_at.Goals as goal

pub loop-c-init : goal.loop-c-init
loop-c-init c = (sym (sigma_zero (λ (i : ℕ). entry c.args.coefs.now.c i c.args.b c.args.k)), omega arith)

pub added-sum-requires : goal.added-sum-requires
added-sum-requires c =
    let x = entry c.args.coefs.now.c c.loop-c.c c.args.b c.args.k in
    let fits : SFits w32 x = search rules in
    let small = c.requires.small c.loop-c.c (omega arith) in
    let bound = c.loop-c.invariant.1 in
    simp to_z-of_z (omega (arith, small, bound))

pub loop-c-preserved : goal.loop-c-preserved
loop-c-preserved c =
    let f = λ (i : ℕ). entry c.args.coefs.now.c i c.args.b c.args.k in
    let x = f c.loop-c.c in
    let fits : SFits w32 x = search rules in
    let small = c.requires.small c.loop-c.c (omega arith) in
    let sum = to_z w32 c.loop-c.sum-bits in
    let next : c.added-sum.result ≡ sum +ℤ x = simp to_z-of_z at c.added-sum.ensures in
    let more = sigma_more c.loop-c.c f in
    let both = abs_add sum x in
    let size : unsigned_abs c.added-sum.result ≡ unsigned_abs (sum +ℤ x) = ap unsigned_abs next in
    let held : SFits w32 c.added-sum.result = record { sfits = c.added-sum.type_inv } in
    let same = to_z-of_z w32 c.added-sum.result held in
    let size_same = ap unsigned_abs same in (
      same ∙ next ∙ ap (λ s. s +ℤ x) c.loop-c.invariant.0 ∙ sym more,
      omega (arith, size_same, size, both, small, c.loop-c.invariant.1),
    )
