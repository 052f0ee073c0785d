use Rattle.std.proofs.Common.{arith}
use Rattle.ac_cost.specs.Parts.{cheapest_assign}
use Rattle.ac_bound.proofs.Offsets.{fits_open, cheapest_is, below_root}
use Rattle.ac_ways.specs.Sixteen.{IsBracket}
use Rattle.ac_ways.proofs.Narrowing.{bracket_root, smaller}
use Rattle.ac_ways.proofs.bracket.root.Goals as goal

pub loop-bracket-init : goal.loop-bracket-init
loop-bracket-init c =
    let shape = c.args.shape.now in
    let raw = c.args.rows.now.raw in
    let whole : IsBracket shape raw (record { low = 0; high = 1024 }) = record {
      order = omega arith;
      within = omega arith;
      is_open = fits_open shape raw 0 (cheapest_assign shape) (cheapest_is shape) c.requires.cheapest;
      above = λ t l m. absurd (omega arith);
    } in
    record {
      bracket = c.narrow-bracket.ensures.value raw c.look-totals.new.at_each.p c.look-totals.ensures.ways c.look-totals.ensures.totals whole;
      first = c.start-first.ensures.bound;
      window = c.look-totals.ensures.window;
      ways = c.look-totals.ensures.ways;
    }

pub loop-bracket-preserved : goal.loop-bracket-preserved
loop-bracket-preserved c =
    let raw = c.args.rows.now.raw in
    record {
      bracket = c.narrow-bracket-in-loop-bracket.ensures.value raw c.look-totals-in-loop-bracket.new.at_each.p c.look-totals-in-loop-bracket.ensures.ways c.look-totals-in-loop-bracket.ensures.totals c.loop-bracket.invariant.bracket;
      first = c.start-first-in-loop-bracket.ensures.bound;
      window = c.look-totals-in-loop-bracket.ensures.window;
      ways = c.look-totals-in-loop-bracket.ensures.ways;
    }

pub loop-bracket-smaller : goal.loop-bracket-smaller
loop-bracket-smaller c =
    smaller c.loop-bracket.bracket c.narrow-bracket-in-loop-bracket.result c.start-first-in-loop-bracket.result c.loop-bracket-test.true c.start-first-in-loop-bracket.ensures.below c.start-first-in-loop-bracket.ensures.above c.narrow-bracket-in-loop-bracket.ensures.low c.narrow-bracket-in-loop-bracket.ensures.high c.narrow-bracket-in-loop-bracket.ensures.tried

pub returns : goal.returns
returns c =
    let shape = c.args.shape.now in
    let raw = c.args.rows.now.raw in
    let here = c.loop-bracket.invariant in
    let low = c.loop-bracket.bracket.low in
    let root = bracket_root shape raw c.loop-bracket.bracket here.bracket c.loop-bracket-test.false in
    record {
      value = root;
      feasible = λ t top f. below_root shape raw low t root top f;
      first = here.first;
      window = here.window;
      ways = here.ways;
    }
