use Rattle.std.proofs.Common.{◌≡◌, ℕ, ◌+◌, ◌*◌, slice_index, subst, ap, arith}
use Rattle.std.proofs.lemmas.List.{get_or-replicate}
use Rattle.ac_base.specs.Sigma.{sum_below}
use Rattle.ac_expo.specs.Raw.{channels}
use Rattle.ac_ways.specs.Sixteen.{ways_at}
use Rattle.ac_ways.proofs.Totals.{total_is, total_none, total_more}
use Rattle.ac_ways.proofs.bracket.part_totals.Goals as goal

pub sums-totals-requires : goal.sums-totals-requires
sums-totals-requires c j l = omega (arith, c.loop-c.invariant.bound j l, c.loop-c-test.true, c.coded-c-end.ensures.bound)

pub loop-c-init : goal.loop-c-init
loop-c-init c =
    let p = c.args.ways.now.p in
    let same = c.from.result in
    record {
      value = λ j l. total_none (λ d. ways_at p j d c.args.part 0) c.args.side same _ c.from.ensures (get_or-replicate 16 j (6 * same) 0 l);
      bound = λ j l. omega (arith, get_or-replicate 16 j (6 * same) 0 l, c.from.type_inv);
    }

pub loop-c-preserved : goal.loop-c-preserved
loop-c-preserved c =
    let p = c.args.ways.now.p in
    let part = c.args.part in
    let place = c.from-in-loop-c.result in
    record {
      value = λ j l.
          total_more (λ d. ways_at p j d part 0) c.loop-c.c c.args.side (slice_index c.loop-c.totals j) (slice_index c.sums-totals.result j) (ways_at p j place part 0) (c.loop-c.invariant.value j l) (ap (λ k. ways_at p j k part 0) c.from-in-loop-c.ensures) (c.sums-totals.ensures.value j l);
      bound = λ j l. omega (arith, c.sums-totals.ensures.bound j l, c.loop-c.invariant.bound j l);
    }

pub returns : goal.returns
returns c j l =
    let p = c.args.ways.now.p in
    let shape = c.args.shape.now in
    let part = c.args.part in
    let f : ℕ → ℕ = λ d. ways_at p j d part 0 in
    let x = slice_index c.loop-c.totals j in
    let e : c.loop-c.c ≡ channels shape = omega (arith, c.loop-c-test.false, c.loop-c.auto.c-end, c.coded-c-end.ensures.value) in
    total_is shape (ways_at p j) part c.args.side x c.requires.part c.requires.side
    (subst (λ k. x ≡ 6 * c.args.side + sum_below k f) e (c.loop-c.invariant.value j l))
