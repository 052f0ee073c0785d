-- How many blocks of a run a part counts.
use Rattle.std.proofs.Common.{◌≡◌, ℕ, zero, suc, ◌+◌, ◌-◌, ◌*◌, ◌<◌, min, ap, ◌∙◌, inl, inr, arith}
use Rattle.std.proofs.lemmas.Bool.{cases_lt}
use Rattle.ac_base.specs.declared.runs.Run.{Run}
use Rattle.ac_cost.specs.Sixths.{in_blocks}
use Rattle.ac_cost.proofs.Covering.{has-before, has-in, has-after, blocks-none, blocks-more}

pub counted : (n : ℕ) (run : Run) (cost : ℕ) → run.from < run.to → in_blocks n run cost ≡ (min run.to n - min run.from n) * cost
counted zero run cost l =
    let e : min run.to 0 - min run.from 0 ≡ 0 = omega arith in
    let x = ap (λ k. k * cost) e in
    omega (arith, blocks-none run cost, x)
counted (suc n) run cost l =
    let so = counted n run cost l in
    let one : suc n ≡ n + 1 = omega arith in
    let next : in_blocks (suc n) run cost ≡ in_blocks (n + 1) run cost = ap (λ k. in_blocks k run cost) one in
    let more = blocks-more n run cost in
    elim (cases_lt n run.from) [
      | inl before ↦
          let m = next ∙ more.1 (has-before run n before) in
          let e : min run.to (suc n) - min run.from (suc n) ≡ min run.to n - min run.from n = omega arith in
          let x = ap (λ k. k * cost) e in
          omega (arith, so, m, x)
      | inr from ↦ elim (cases_lt n run.to) [
        | inl inside ↦
            let m = next ∙ more.0 (has-in run n from inside) in
            let e : min run.to (suc n) - min run.from (suc n) ≡ (min run.to n - min run.from n) + 1 = omega arith in
            let x = ap (λ k. k * cost) e in
            omega (arith, so, m, x)
        | inr after ↦
            let m = next ∙ more.1 (has-after run n after) in
            let e : min run.to (suc n) - min run.from (suc n) ≡ min run.to n - min run.from n = omega arith in
            let x = ap (λ k. k * cost) e in
            omega (arith, so, m, x)
      ]
    ]
