-- The words of an assignment, read off its runs (A/52 5.4.3.21 to 5.4.3.23), and the game of one offset: this project's own.
use Rattle.std.specs.Prelude.{◌≡◌, ℕ, ◌*◌, ◌==◌, ◌&&◌, if◌then◌else◌, List, [], ◌∷◌}
use Rattle.ac_base.specs.Fit.{side_of, rooms_of}
use Rattle.ac_expo.specs.Raw.{channels}
use Rattle.ac_cost.specs.Parts.{FitsAt}
use Rattle.ac_cost.specs.Records.{AtOffset}
use Rattle.ac_cost.specs.Sixths.{part_of, run_sixths}
use Rattle.ac_bound.specs.Steps.{kinds_of}
use Rattle.ac_bound.specs.Ways.{ArePots}
use Rattle.ac_seek.specs.declared.step.Step.{Step}
use Rattle.ac_seek.specs.Games.{Game}
use Rattle.ac_seek.specs.Trees.{tree_size, NonePasses}

-- what runs cost at an offset: sixths of a bit
abbrev pub game_of : AtOffset → Game
game_of v = record {
  channels = channels v.shape;
  kinds = kinds_of v.shape;
  cost = λ part s. run_sixths v.shape v.raw v.t part s.channel s.run;
  base = λ part. 6 * part_of (side_of v.shape.acmod v.shape.lfe v.shape.couple) part;
  room = λ part. 6 * part_of (rooms_of v.shape.words) part;
}

-- the code of a channel in a block: the kind of the run that begins there, 0 for reuse; a channel with no runs has D15 in block 0
abbrev pub code_at : List Step → ℕ → ℕ → ℕ
code_at [] c b = if b == 0 then 1 else 0
code_at (s ∷ path) c b = if s.channel == c && s.run.from == b then s.run.kind else code_at path c b

-- the word of a channel, and seven of them
abbrev pub word_at : List Step → ℕ → List ℕ
word_at path c = code_at path c 0 ∷ code_at path c 1 ∷ code_at path c 2 ∷ code_at path c 3 ∷ code_at path c 4 ∷ code_at path c 5 ∷ []

abbrev pub words_of : List Step → List (List ℕ)
words_of path = word_at path 0 ∷ word_at path 1 ∷ word_at path 2 ∷ word_at path 3 ∷ word_at path 4 ∷ word_at path 5 ∷ word_at path 6 ∷ []

-- the words of these runs fit
abbrev pub FitsHere : AtOffset → List Step → Type 0
FitsHere v path = FitsAt v.shape v.raw v.t (words_of path)

-- no assignment that begins with these runs fits
abbrev pub NoneFits : AtOffset → List Step → Type 0
NoneFits v path = NonePasses (game_of v) (FitsHere v) path

-- how many nodes the tree of an offset has: from no run on, by the least costs of all ways on
pub record IsTreeSize (v : AtOffset) (n : ℕ) : Type 0 where
  pub pot : ℕ → ℕ → ℕ → ℕ
  pub are : ArePots v pot
  pub nodes : tree_size (game_of v) pot [] ≡ n
