use Rattle.std.proofs.Common.{◌+◌, false, inl, inr, refl, arith}
use Rattle.std.specs.Prelude.{IsTrue}
use Rattle.ac_ways.specs.Sixteen.{ways_at}
use Rattle.ac_ways.proofs.Narrowing.{closed_over, open_under, lower_high, raise_low}
use Rattle.ac_ways.proofs.bracket.narrow_at.Goals as goal

never : IsTrue false → ⊥
never f = cc

pub returns-then-is_closed : goal.returns-then-is_closed
returns-then-is_closed c =
    let shape = c.args.shape.now in
    let j = c.args.j in
    let t = c.args.t0 + j in
    record {
      value = λ raw p are totals so.
          lower_high shape raw c.args.bracket.now t c.min.result (omega (arith, c.min.ensures)) (closed_over shape raw t (ways_at p j) (are j c.requires.j) ((c.if-is_closed.ensures.value p totals).0 refl)) so;
      low = omega arith;
      high = omega (arith, c.min.ensures);
      tried = inr (omega (arith, c.min.ensures));
    }

pub returns-else-is_closed : goal.returns-else-is_closed
returns-else-is_closed c =
    let shape = c.args.shape.now in
    let j = c.args.j in
    let t = c.args.t0 + j in
    record {
      value = λ raw p are totals so.
          raise_low shape raw c.args.bracket.now t c.max.result (omega (arith, c.max.ensures)) (omega (arith, c.requires.start, c.requires.j)) (open_under shape raw t (ways_at p j) (are j c.requires.j) (λ over. never ((c.if-is_closed.ensures.value p totals).1 over))) so;
      low = omega (arith, c.max.ensures);
      high = omega arith;
      tried = inl (omega (arith, c.max.ensures));
    }
