use Rattle.std.proofs.Common.{◌≡◌, ◌%◌, ◌-◌, ◌+◌, ◌*ℤ◌, ◌≤◌, ◌^◌, ℕ, ℤ, pos, neg_ℤ, unsigned_abs, slice_index_or, SFits, w64, rules, arith, ap, sym, subst, ◌∙◌}
use Rattle.std.proofs.lemmas.Int.{to_z-of_z}
use Rattle.std.proofs.Math.Nat.{add_comm}
use Rattle.ac_base.specs.Cosine.{cosine_at}
use Rattle.ac_base.proofs.Rearranged.{sigma_same}
use Rattle.ac_mdct.proofs.Terms.{power_sums_bound, power_sums_turned}
use Rattle.ac_mdct.proofs.powers.power_sum.Goals as goal

pub returns-then-a-lt256-clause-value : goal.returns-then-a-lt256-clause-value
returns-then-a-lt256-clause-value c =
    let fits : SFits w64 c.sum_at-sum.result = search rules in
    let there : c.args.a % 256 ≡ c.args.a = omega arith in
    simp to_z-of_z (c.sum_at-sum.ensures ∙ ap (λ (n : ℕ). slice_index_or c.args.sums.now n (pos 0)) there ∙ c.requires.sums c.args.a (omega arith)
    ∙ sigma_same 256 (λ i. slice_index_or c.args.w.now i (pos 0) *ℤ cosine_at (5 ^ (i + c.args.a))) (λ i. slice_index_or c.args.w.now i (pos 0) *ℤ cosine_at (5 ^ (c.args.a + i)))
    (λ i within. ap (λ (n : ℕ). slice_index_or c.args.w.now i (pos 0) *ℤ cosine_at (5 ^ n)) (add_comm i c.args.a)))

pub returns-then-a-lt256-clause-bound : goal.returns-then-a-lt256-clause-bound
returns-then-a-lt256-clause-bound c =
    let fits : SFits w64 c.sum_at-sum.result = search rules in
    let small : unsigned_abs c.sum_at-sum.result ≤ 2 ^ 62 = subst (λ (z : ℤ). unsigned_abs z ≤ 2 ^ 62) (sym c.sum_at-sum.ensures) (power_sums_bound c.args.w.now c.args.sums.now c.requires.bound c.requires.sums (c.args.a % 256) (omega arith)) in
    simp to_z-of_z small

pub opposite-requires : goal.opposite-requires
opposite-requires c =
    let fits : SFits w64 c.sum_at-sum.result = search rules in
    let small : unsigned_abs c.sum_at-sum.result ≤ 2 ^ 62 = subst (λ (z : ℤ). unsigned_abs z ≤ 2 ^ 62) (sym c.sum_at-sum.ensures) (power_sums_bound c.args.w.now c.args.sums.now c.requires.bound c.requires.sums (c.args.a % 256) (omega arith)) in
    simp to_z-of_z small

pub returns-else-a-lt256-clause-value : goal.returns-else-a-lt256-clause-value
returns-else-a-lt256-clause-value c =
    let fits : SFits w64 c.sum_at-sum.result = search rules in
    let wide : SFits w64 c.opposite.result = search rules in
    let there : c.args.a % 256 ≡ c.args.a - 256 = omega arith in
    let is : c.opposite.result ≡ neg_ℤ c.sum_at-sum.result = simp to_z-of_z at c.opposite.ensures.value in
    let here = c.sum_at-sum.ensures ∙ ap (λ (n : ℕ). slice_index_or c.args.sums.now n (pos 0)) there in
    simp to_z-of_z (is ∙ ap neg_ℤ here ∙ power_sums_turned (λ i. slice_index_or c.args.w.now i (pos 0)) c.args.sums.now c.requires.sums c.args.a (omega arith) c.requires.from)
