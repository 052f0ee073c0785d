-- The laws at an offset.
use Rattle.std.proofs.Common.{◌≡◌, ◌*◌, ◌<◌, Bool, true, false, [], inl, inr, refl, arith}
use Rattle.std.specs.Prelude.{◌||◌}
use Rattle.std.specs.List.{Contains}
use Rattle.std.proofs.lemmas.List.Elements.{All-contains, All-contains_itself, All-from_recursion, recursion_from_All}
use Rattle.std.proofs.lemmas.Bool.{ltb-true, lt-ltb, or_cases}
use Rattle.ac_base.specs.Fit.{rooms_of}
use Rattle.ac_cost.specs.Sixths.{part_of}
use Rattle.ac_bound.specs.Bounds.{lower_of}
use Rattle.ac_bound.proofs.Threes.{of_three}
use Rattle.ac_seek.specs.Laws.{partial_of, ClosedIsOver, ClosedHasNoFit, ChildrenAreNext, ChildrenCover, RootHasAll, SizeExists}
use Rattle.ac_seek.specs.Games.{IsNext}
use Rattle.ac_seek.specs.Trees.{next_steps, over, closed, lower, tree_size}
use Rattle.ac_seek.specs.Words.{game_of, FitsHere}
use Rattle.ac_seek.proofs.Answering.{some-pots}
use Rattle.ac_seek.proofs.Below.{at_next, covers, closed-none}
use Rattle.ac_seek.proofs.Looks.{game-is}
use Rattle.ac_seek.proofs.Roots.{none-feasible}
use Rattle.ac_seek.proofs.Sizes.{all_next}
use Rattle.ac_seek.proofs.Wholes.{words-are}

or-left : (a b : Bool) → a ≡ true → (a || b) ≡ true
or-left a b e = rw e refl

or-right : (a b : Bool) → b ≡ true → (a || b) ≡ true
or-right true b e = refl
or-right false b e = e

pub closed-over : ClosedIsOver
closed-over v pot path =
    let g = game_of v in
    let a = over g pot 0 path in
    let b = over g pot 1 path in
    let c = over g pot 2 path in
    let bound = lower_of v.shape pot (partial_of v path) in (
      λ e. elim (or_cases (a || b) c e) [
        | inl first ↦ elim (or_cases a b first) [
          | inl e0 ↦ record { part = 0; is_part = omega arith; over = ltb-true (g.room 0) (lower g pot 0 path) e0 }
          | inr e1 ↦ record { part = 1; is_part = omega arith; over = ltb-true (g.room 1) (lower g pot 1 path) e1 }
        ]
        | inr e2 ↦ record { part = 2; is_part = omega arith; over = ltb-true (g.room 2) (lower g pot 2 path) e2 }
      ],
      λ is. of_three (λ q. 6 * part_of (rooms_of v.shape.words) q < bound q → closed g pot path ≡ true)
          (λ l. or-left (a || b) c (or-left a b (lt-ltb (g.room 0) (lower g pot 0 path) l)))
          (λ l. or-left (a || b) c (or-right a b (lt-ltb (g.room 1) (lower g pot 1 path) l)))
          (λ l. or-right (a || b) c (lt-ltb (g.room 2) (lower g pot 2 path) l)) is.part is.is_part is.over,
    )

pub closed-fits : ClosedHasNoFit
closed-fits v pot path are is shut = closed-none (game_of v) pot (FitsHere v) path (game-is v pot are) is shut

pub cover : ChildrenCover
cover v path inside all = covers (game_of v) (FitsHere v) path inside all

pub root-all : RootHasAll
root-all v = (
  none-feasible v,
  λ none steps way fits. none (record { assign = _; is_assignment = words-are v steps way; fits = fits }),
)

pub size-exists : SizeExists
size-exists v =
    let some = some-pots v in
    (tree_size (game_of v) some.0 [], record { pot = some.0; are = some.1; nodes = refl })

pub children : ChildrenAreNext
children g channel at s inside =
    let next = next_steps g.kinds channel at in (
      λ is. All-contains (IsNext g channel at) next s (All-from_recursion (IsNext g channel at) next (all_next (IsNext g channel at) g channel at inside (λ t ok. ok))) is,
      λ ok. at_next (Contains next) g channel at s (recursion_from_All (Contains next) next (All-contains_itself next)) ok,
    )
