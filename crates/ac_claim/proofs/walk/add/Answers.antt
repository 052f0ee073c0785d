use Rattle.std.proofs.Common.{arith, subst, sym, List}
use Rattle.ac_cost.proofs.Assigning.{coded-few}
use Rattle.ac_bound.specs.declared.bounds.Partial.{Partial}
use Rattle.ac_seek.specs.declared.step.Step.{Step}
use Rattle.ac_seek.specs.Games.{channel_of, boundary_of}
use Rattle.ac_seek.specs.Words.{game_of}
use Rattle.ac_seek.proofs.Paths.{Holds-room, next-run}
use Rattle.ac_claim.specs.Walks.{Stands}
use Rattle.ac_claim.proofs.Standing.{stands-add, stands-few}
use Rattle.ac_claim.proofs.walk.add.Goals as goal

pub after-done-requires : goal.after-done-requires
after-done-requires c = omega (arith, c.requires.next.inside, c.requires.next.same, coded-few c.args.table.now.shape)

pub run_sixths-cost-requires : goal.run_sixths-cost-requires
run_sixths-cost-requires c =
    next-run c.args.table.now (channel_of c.args.path.now) (boundary_of c.args.path.now) c.args.step c.requires.next

pub more-spent-requires-clause-few : goal.more-spent-requires-clause-few
more-spent-requires-clause-few c =
    stands-few c.args.table.now c.args.path.now c.args.partial.now c.args.step c.requires.stands c.requires.next

pub push-requires : goal.push-requires
push-requires c =
    Holds-room (game_of c.args.table.now) c.args.path.now c.args.partial.now c.args.step c.requires.stands.holds (coded-few c.args.table.now.shape) c.requires.next

pub returns-clause-stands : goal.returns-clause-stands
returns-clause-stands c =
    let v = c.args.table.now in
    let new : Partial = record { done = c.after-done.result.0; at = c.after-done.result.1; spent = c.more-spent.result } in
    subst (λ (p : List Step). Stands v p new) (sym c.push.ensures)
    (stands-add v c.args.path.now c.args.partial.now new c.args.step c.run_sixths-cost.result c.requires.stands c.requires.next c.run_sixths-cost.ensures.value c.run_sixths-cost.ensures.bound c.after-done.ensures.channel c.after-done.ensures.boundary c.more-spent.ensures)
