use Rattle.std.proofs.Common.{◌+◌, inl, inr, sym, subst, arith}
use Rattle.std.proofs.lemmas.Bool.{cases_eq}
use Rattle.ac_ways.specs.Sixteen.{IsOutside}
use Rattle.ac_ways.proofs.Narrowing.{outside}
use Rattle.ac_ways.proofs.bracket.narrow.Goals as goal

pub loop-j-preserved : goal.loop-j-preserved
loop-j-preserved c =
    let so = c.loop-j.invariant in
    let next = c.narrow_at-left.result in
    let left = c.loop-j.left in
    record {
      value = λ raw p are totals is. c.narrow_at-left.ensures.value raw p are totals (so.value raw p are totals is);
      low = omega (arith, so.low, c.narrow_at-left.ensures.low);
      high = omega (arith, so.high, c.narrow_at-left.ensures.high);
      tried = λ j l. elim (cases_eq j c.loop-j.j) [
        | inl e ↦ subst (λ k. IsOutside next (c.args.t0 + k)) (sym e) c.narrow_at-left.ensures.tried
        | inr other ↦ outside left next (c.args.t0 + j) c.narrow_at-left.ensures.low c.narrow_at-left.ensures.high (so.tried j (omega (arith, l, other)))
      ];
    }

pub returns-clause-tried : goal.returns-clause-tried
returns-clause-tried c j l = c.loop-j.invariant.tried j (omega (arith, l, c.loop-j-test.false))
