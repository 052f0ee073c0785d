use Rattle.std.proofs.Common.{arith, rules}
use Rattle.ac_levels.proofs.Filling.{none_below}
use Rattle.ac_levels.proofs.Stepping.{kind_three}
use Rattle.ac_levels.proofs.rows.fill_rows.Goals as goal

pub returns-then-kinds-eq3 : goal.returns-then-kinds-eq3
returns-then-kinds-eq3 c = λ kind from to is_kind order ends.
    let span = c.args.span.now in
    let raw = c.args.raw.now in
    let bins = c.place_blocks-bins.ensures in
    let pairs = c.join_steps-pairs.ensures raw bins in
    let fours = c.join_steps-fours.ensures raw pairs in
    let one = c.fill_next.ensures raw bins (none_below span raw c.args.out.now (search rules)) in
    let two = c.fill_next-then-kinds-eq3.ensures raw pairs one in
    let three = c.fill_next-then-kinds-eq3-2.ensures raw fours two in
    three.filled kind from to is_kind.0 (omega (arith, kind_three span.lead kind is_kind.1)) order ends
