use Rattle.std.proofs.Common.{◌≡◌, ℕ, arith}
use Rattle.ac_coupling.specs.Coordinate.{IsCoordinate, coordinate_of}
use Rattle.ac_coupling.proofs.Rising.{at_most}
use Rattle.ac_coupling.proofs.Search.{search_gives, one_coordinate}
use Rattle.ac_coupling.proofs.factors.coordinate.Goals as goal

-- no energy of the coupling channel: all are within
of_nothing : (own shared : ℕ) → shared ≡ 0 → IsCoordinate own shared (record { exp = 0; mant = 15 })
of_nothing own shared none = record {
  exp_bound = omega arith;
  mant_bound = omega arith;
  within = omega arith;
  greatest = λ exp mant e m within. at_most exp mant e m;
}

pub returns-then-shared-eq0-clause-coordinate : goal.returns-then-shared-eq0-clause-coordinate
returns-then-shared-eq0-clause-coordinate c = of_nothing c.args.own c.args.shared c.if-shared-eq0.true

pub returns-then-shared-eq0-clause-value : goal.returns-then-shared-eq0-clause-value
returns-then-shared-eq0-clause-value c =
    let own = c.args.own in
    let shared = c.args.shared in
    one_coordinate own shared (record { exp = 0; mant = 15 }) (coordinate_of own shared) (of_nothing own shared c.if-shared-eq0.true) (search_gives own shared)

pub returns-else-shared-eq0-clause-coordinate : goal.returns-else-shared-eq0-clause-coordinate
returns-else-shared-eq0-clause-coordinate c = record {
  exp_bound = c.nearest.ensures.exp;
  mant_bound = c.nearest.ensures.mant;
  within = c.limit.ensures.below _ c.nearest.ensures.within;
  greatest = λ exp mant e m within. c.nearest.ensures.greatest exp mant e m (c.limit.ensures.above _ within);
}

pub returns-else-shared-eq0-clause-value : goal.returns-else-shared-eq0-clause-value
returns-else-shared-eq0-clause-value c =
    let own = c.args.own in
    let shared = c.args.shared in
    let is : IsCoordinate own shared c.nearest.result = record {
      exp_bound = c.nearest.ensures.exp;
      mant_bound = c.nearest.ensures.mant;
      within = c.limit.ensures.below _ c.nearest.ensures.within;
      greatest = λ exp mant e m within. c.nearest.ensures.greatest exp mant e m (c.limit.ensures.above _ within);
    } in
    one_coordinate own shared c.nearest.result (coordinate_of own shared) is (search_gives own shared)
