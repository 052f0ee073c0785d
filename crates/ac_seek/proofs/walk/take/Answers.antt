use Rattle.std.proofs.Common.{arith, refl, subst, List, [], slice_index_or}
use Rattle.ac_cost.proofs.Assigning.{coded-few}
use Rattle.ac_bound.specs.declared.bounds.Partial.{Partial}
use Rattle.ac_seek.specs.declared.step.Step.{Step}
use Rattle.ac_seek.specs.Games.{channel_of, boundary_of}
use Rattle.ac_seek.specs.Walks.{Holds}
use Rattle.ac_seek.specs.Words.{game_of}
use Rattle.ac_seek.proofs.Paths.{Holds-take, Holds-less, board-row, next-run}
use Rattle.ac_seek.proofs.walk.take.Goals as goal

pub place-requires : goal.place-requires
place-requires g c =
    let v = g.C.RunCosts.offset c.args.board.now.table.now in
    let path = c.pop.new.self in
    let held = subst (λ (p : List Step). Holds (game_of v) p c.args.partial.now) c.in_ok-step.ensures c.requires.held in
    let run = next-run v (channel_of path) (boundary_of path) c.in_ok-step.step held.valid.0 in
    record { channel = omega (arith, run.channel, coded-few v.shape); run = run.is_run }

pub less-spent-requires : goal.less-spent-requires
less-spent-requires g c =
    let board = c.args.board.now in
    let offset = g.C.RunCosts.offset in
    let g = game_of (offset board.table.now) in
    let path = c.pop.new.self in
    let s = c.in_ok-step.step in
    let held = subst (λ (p : List Step). Holds g p c.args.partial.now) c.in_ok-step.ensures c.requires.held in
    Holds-less g path c.args.partial.now s (slice_index_or board.costs c.place.result []) held
    (board-row offset board (channel_of path) (boundary_of path) c.place.result s c.requires.board held.valid.0 c.place.ensures.value)

pub returns-clause-held : goal.returns-clause-held
returns-clause-held g c =
    let board = c.args.board.now in
    let offset = g.C.RunCosts.offset in
    let g = game_of (offset board.table.now) in
    let path = c.pop.new.self in
    let s = c.in_ok-step.step in
    let new : Partial = record { done = s.channel; at = s.run.from; spent = c.less-spent.result } in
    let held = subst (λ (p : List Step). Holds g p c.args.partial.now) c.in_ok-step.ensures c.requires.held in
    Holds-take g path c.args.partial.now new s (slice_index_or board.costs c.place.result []) held
    (board-row offset board (channel_of path) (boundary_of path) c.place.result s c.requires.board held.valid.0 c.place.ensures.value) refl refl c.less-spent.ensures
