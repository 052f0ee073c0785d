use Rattle.std.proofs.Common.{◌≡◌, ◌*◌}
use Rattle.ac_expo.specs.Groups.{first_of, groups_below, at_step}
use Rattle.ac_expo.proofs.grouping.group.Given as goal

abbrev pub invariant-loop-place : goal.invariant-loop-place
invariant-loop-place l =
    (l.spelled ≡ record { first = first_of l.span l.exps; groups = groups_below l.kind l.span l.exps l.place })
    × (l.last ≡ at_step l.kind l.span l.exps (3 * l.place))
