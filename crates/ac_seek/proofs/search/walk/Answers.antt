use Rattle.std.proofs.Common.{List, ◌∙◌, subst, arith}
use Rattle.ac_seek.specs.declared.step.Step.{Step}
use Rattle.ac_seek.specs.Walks.{NothingLeft}
use Rattle.ac_seek.specs.Words.{game_of, FitsHere}
use Rattle.ac_seek.proofs.Answering.{some-pots, owed-start, holds-start}
use Rattle.ac_seek.proofs.Turns.{owed-pos}
use Rattle.ac_seek.proofs.search.walk.Goals as goal

pub loop-before-init : goal.loop-before-init
loop-before-init g c =
    let v = g.C.RunCosts.offset c.args.board.now.table.now in
    let g = game_of v in
    let path = c.new-path.result in
    record {
      known = c.new-known.ensures;
      held = holds-start g path c.new-path.ensures;
      count = λ pot are. owed-start g pot path c.new-path.ensures;
      left = λ left. (subst (λ (p : List Step). NothingLeft g (FitsHere v) p) c.new-path.ensures left).0;
    }

pub loop-before-preserved : goal.loop-before-preserved
loop-before-preserved g c =
    let v = g.C.RunCosts.offset c.args.board.now.table.now in
    let here = c.loop-before.invariant in
    let some = some-pots v in
    record {
      known = c.look.ensures.kept ∙ here.known;
      held = c.look.ensures.held;
      count = λ pot are. omega (arith, (c.in-Goes.ensures.step pot are).0, here.count pot are);
      left = λ left. here.left ((c.in-Goes.ensures.step some.0 some.1).1 left);
    }

pub returns : goal.returns
returns g c = λ pot are.
    omega (arith, c.loop-before-test.false, c.loop-before.invariant.count pot are, owed-pos (game_of (g.C.RunCosts.offset c.args.board.now.table.now)) pot c.loop-before.path)

pub returns-in-Found : goal.returns-in-Found
returns-in-Found g c = c.in-Found.ensures.step

pub returns-in-Ended : goal.returns-in-Ended
returns-in-Ended g c =
    let v = g.C.RunCosts.offset c.args.board.now.table.now in
    let here = c.loop-before.invariant in
    let some = some-pots v in (
      here.left (c.in-Ended.ensures.step some.0 some.1).1,
      λ pot are. omega (arith, (c.in-Ended.ensures.step pot are).0, here.count pot are),
      omega (arith, c.loop-before-test.true),
    )

pub look-requires-clause-known : goal.look-requires-clause-known
look-requires-clause-known g c = c.loop-before.invariant.known
