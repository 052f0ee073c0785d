use Rattle.std.proofs.Common.{arith, subst, sym, List, [], slice_index_or}
use Rattle.ac_cost.proofs.Assigning.{coded-few}
use Rattle.ac_bound.specs.declared.bounds.Partial.{Partial}
use Rattle.ac_seek.specs.declared.step.Step.{Step}
use Rattle.ac_seek.specs.Games.{channel_of, boundary_of}
use Rattle.ac_seek.specs.Walks.{Holds}
use Rattle.ac_seek.specs.Words.{game_of}
use Rattle.ac_seek.proofs.Paths.{Holds-small, Holds-room, Holds-add, board-cheap, board-row}
use Rattle.ac_seek.proofs.walk.add.Goals as goal

pub after-done-requires : goal.after-done-requires
after-done-requires g c =
    omega (arith, c.requires.next.inside, c.requires.next.same, coded-few (g.C.RunCosts.offset c.args.board.now.table.now).shape)

pub place-requires-clause-channel : goal.place-requires-clause-channel
place-requires-clause-channel g c =
    omega (arith, c.requires.next.inside, c.requires.next.same, coded-few (g.C.RunCosts.offset c.args.board.now.table.now).shape)

pub more-spent-requires-clause-few : goal.more-spent-requires-clause-few
more-spent-requires-clause-few g c =
    Holds-small (game_of (g.C.RunCosts.offset c.args.board.now.table.now)) c.args.path.now c.args.partial.now c.requires.held (coded-few (g.C.RunCosts.offset c.args.board.now.table.now).shape) (board-cheap g.C.RunCosts.offset c.args.board.now c.requires.board)

pub push-requires : goal.push-requires
push-requires g c =
    Holds-room (game_of (g.C.RunCosts.offset c.args.board.now.table.now)) c.args.path.now c.args.partial.now c.args.step c.requires.held (coded-few (g.C.RunCosts.offset c.args.board.now.table.now).shape) c.requires.next

pub returns-clause-held : goal.returns-clause-held
returns-clause-held g c =
    let board = c.args.board.now in
    let offset = g.C.RunCosts.offset in
    let g = game_of (offset board.table.now) in
    let path = c.args.path.now in
    let new : Partial = record { done = c.after-done.result.0; at = c.after-done.result.1; spent = c.more-spent.result } in
    let costs = board-row offset board (channel_of path) (boundary_of path) c.place.result c.args.step c.requires.board c.requires.next c.place.ensures.value in
    subst (λ (p : List Step). Holds g p new) (sym c.push.ensures)
    (Holds-add g path c.args.partial.now new c.args.step (slice_index_or board.costs c.place.result []) c.requires.held c.requires.next costs c.after-done.ensures.channel c.after-done.ensures.boundary c.more-spent.ensures)
