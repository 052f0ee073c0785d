-- What one look does, by what is closed and what fits.
use Rattle.std.proofs.Common.{◌≡◌, ℕ, ◌≤◌, true, List}
use Rattle.ac_expo.specs.Raw.{channels}
use Rattle.ac_cost.specs.Records.{AtOffset}
use Rattle.ac_bound.specs.Ways.{ArePots}
use Rattle.ac_seek.specs.declared.step.Step.{Step}
use Rattle.ac_seek.specs.declared.walk.Turn.{Turn}
use Rattle.ac_seek.specs.declared.walk.Turn.TheVariants.{Found, Ended, Goes}
use Rattle.ac_seek.specs.Games.{IsPath, channel_of}
use Rattle.ac_seek.proofs.Premises.{IsGame}
use Rattle.ac_seek.specs.Trees.{closed}
use Rattle.ac_seek.specs.Walks.{IsPassed, IsTurn}
use Rattle.ac_seek.specs.Words.{game_of, FitsHere}
use Rattle.ac_seek.proofs.Below.{closed-none, whole-none}
use Rattle.ac_seek.proofs.Closing.{game-bound}
use Rattle.ac_seek.proofs.Turns.{leaf-closed, leaf-whole, leaf-ends, leaf-goes}
use Rattle.ac_seek.proofs.Wholes.{game-strict}

pub game-is : (v : AtOffset) (pot : ℕ → ℕ → ℕ → ℕ) → ArePots v pot → IsGame (game_of v) pot (FitsHere v)
game-is v pot are = record { bound = game-bound v pot are; strict = game-strict v }

pub turn-closed : (v : AtOffset) (path new : List Step) (turn : Turn) → IsPath (game_of v) path → ((pot : ℕ → ℕ → ℕ → ℕ) → ArePots v pot → closed (game_of v) pot path ≡ true) → IsPassed v path new turn → IsTurn v path new turn
turn-closed v path new (Found a) is shut passed = absurd passed
turn-closed v path new Ended is shut passed = λ pot are.
    let g = game_of v in
    leaf-ends g pot (FitsHere v) path (leaf-closed g pot path (shut pot are)) passed (closed-none g pot (FitsHere v) path (game-is v pot are) is (shut pot are))
turn-closed v path new Goes is shut passed = λ pot are.
    let g = game_of v in
    leaf-goes g pot (FitsHere v) path new (leaf-closed g pot path (shut pot are)) passed (closed-none g pot (FitsHere v) path (game-is v pot are) is (shut pot are))

pub turn-whole : (v : AtOffset) (path new : List Step) (turn : Turn) → channels v.shape ≤ channel_of path → (FitsHere v path → ⊥) → IsPassed v path new turn → IsTurn v path new turn
turn-whole v path new (Found a) past none passed = absurd passed
turn-whole v path new Ended past none passed = λ pot are.
    let g = game_of v in
    leaf-ends g pot (FitsHere v) path (leaf-whole g pot path past) passed (whole-none g (FitsHere v) path past none)
turn-whole v path new Goes past none passed = λ pot are.
    let g = game_of v in
    leaf-goes g pot (FitsHere v) path new (leaf-whole g pot path past) passed (whole-none g (FitsHere v) path past none)
