-- Where the making of a tree stands.
use Rattle.std.specs.Prelude.{◌≡◌, ℕ, ◌+◌, ◌*◌, ◌^◌, ◌<◌, ◌≤◌, ◌==◌, ◌&&◌, if◌then◌else◌, List, length, slice_index}
use Rattle.ac_cost.specs.Records.{AtOffset}
use Rattle.ac_seek.specs.declared.step.Step.{Step}
use Rattle.ac_seek.specs.Walks.{Holds}
use Rattle.ac_seek.specs.Words.{game_of, code_at, NoneFits}
use Rattle.ac_trees.specs.declared.node.Node.{Node}

-- the node is where these runs lead: it stands and has spent what they say, and has their codes
pub record IsAt (v : AtOffset) (path : List Step) (node : Node) : Type 0 where
  pub held : Holds (game_of v) path node.partial
  pub codes : (c b : ℕ) → c < 7 → b < 6 → slice_index node.codes (6 * c + b) ≡ code_at path c b

-- no assignment that begins with the runs that lead to the node fits; each run costs at most 2 ^ 19 sixths
pub record IsUnfit (v : AtOffset) (node : Node) : Type 0 where
  pub path : List Step
  pub is_at : IsAt v path node
  pub none : NoneFits v path
  pub small : (part : ℕ) → part < 3 → slice_index node.partial.spent part ≤ length path * 2 ^ 19

-- codes with that of one run more
abbrev pub AreWith : List ℕ → Step → List ℕ → Type 0
AreWith old s new =
    (c b : ℕ) → c < 7 → b < 6
    → slice_index new (6 * c + b) ≡ (if s.channel == c && s.run.from == b then s.run.kind else slice_index old (6 * c + b))
