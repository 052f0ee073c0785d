use Rattle.std.proofs.Common.{◌≡◌, ◌<◌, ◌≤◌, false, refl, sym, ap, ◌∙◌, arith}
use Rattle.ac_expo.specs.Raw.{channels, channel_span}
use Rattle.ac_cost.proofs.Assigning.{coded-few}
use Rattle.ac_bound.proofs.Leasts.{kinds-least}
use Rattle.ac_seek.specs.Games.{channel_of}
use Rattle.ac_seek.specs.Trees.{closed}
use Rattle.ac_seek.specs.Words.{game_of, FitsHere}
use Rattle.ac_seek.proofs.Closing.{closed-is}
use Rattle.ac_seek.proofs.Looks.{turn-closed, turn-whole}
use Rattle.ac_seek.proofs.Paths.{IsShort-path}
use Rattle.ac_seek.proofs.Turns.{down-first}
use Rattle.ac_seek.proofs.walk.look.Goals as goal

pub is_closed-requires-clause-channel : goal.is_closed-requires-clause-channel
is_closed-requires-clause-channel g c =
    let v = g.C.RunCosts.offset c.args.board.now.table.now in
    omega (arith, c.requires.held.done, (IsShort-path (game_of v) c.args.path.now c.requires.held.valid).channel, coded-few v.shape)

pub returns-then-is_closed-clause-step : goal.returns-then-is_closed-clause-step
returns-then-is_closed-clause-step g c =
    let board = c.args.board.now in
    let offset = g.C.RunCosts.offset in
    turn-closed (offset board.table.now) c.args.path.now c.pass.new.path c.pass.result c.requires.held.valid
    (λ pot are. sym (closed-is offset board pot c.args.path.now c.args.partial.now c.requires.board are c.requires.held) ∙ (sym c.is_closed.ensures ∙ c.if-is_closed.true))
    c.pass.ensures.step

pub returns-then-partial-coded-clause-step : goal.returns-then-partial-coded-clause-step
returns-then-partial-coded-clause-step g c = λ pot are.
    let board = c.args.board.now in
    let offset = g.C.RunCosts.offset in
    let v = offset board.table.now in
    let held = c.requires.held in
    let shut : closed (game_of v) pot c.args.path.now ≡ false = sym (closed-is offset board pot c.args.path.now c.args.partial.now c.requires.board are held) ∙ (sym c.is_closed.ensures ∙ c.if-is_closed.false) in
    let count = ap channels c.requires.board.same in
    let inside : c.args.partial.now.done < channels v.shape = omega (arith, c.if-partial-coded.true, c.coded.ensures.value, count) in
    let low = (IsShort-path (game_of v) c.args.path.now held.valid).boundary in
    down-first (game_of v) pot (FitsHere v) c.args.path.now c.add.new.path c.first-step.result c.args.partial.now.done c.args.partial.now.at held.valid shut held.done held.at inside (omega (arith, low, held.at)) (kinds-least (channel_span v.shape c.args.partial.now.done).lead) c.first-step.ensures c.add.ensures.path

pub returns-in-None-clause-step : goal.returns-in-None-clause-step
returns-in-None-clause-step g c =
    let v = g.C.RunCosts.offset c.args.board.now.table.now in
    let count = ap channels c.requires.board.same in
    let past : channels v.shape ≤ channel_of c.args.path.now = omega (arith, c.if-partial-coded.false, c.coded.ensures.value, count, c.requires.held.done) in
    turn-whole v c.args.path.now c.pass-in-None.new.path c.pass-in-None.result past (c.in-None.ensures.none refl) c.pass-in-None.ensures.step
