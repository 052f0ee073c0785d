-- The tree of partial assignments, and how many nodes it has. A partial assignment is closed where its lower bound in some part is over
-- the room; the children of one that isn't decide the next run of the channel in hand. This project's own.
use Rattle.std.specs.Prelude.{ℕ, zero, suc, ◌+◌, ◌-◌, ◌*◌, List, [], ◌∷◌, ◌++◌, Bool, ◌||◌, if◌then◌else◌, nat_lt, nat_le}
use Rattle.ac_base.specs.Sigma.{sum_below}
use Rattle.ac_seek.specs.declared.step.Step.{Step}
use Rattle.ac_seek.specs.Games.{Game, channel_of, boundary_of, spent, onto, IsWay}

-- the sum over a list
abbrev pub total : {X : Type 0} → (X → ℕ) → List X → ℕ
total f [] = 0
total f (x ∷ xs) = f x + total f xs

-- n runs between two boundaries of a channel, of the kinds from one on
abbrev pub of_kinds : ℕ → ℕ → ℕ → ℕ → ℕ → List Step
of_kinds zero channel from to kind = []
of_kinds (suc n) channel from to kind =
    record { channel = channel; run = record { from = from; to = to; kind = kind } } ∷ of_kinds n channel from to (kind + 1)

-- the runs of all kinds from a boundary to n others, from one on
abbrev pub of_ends : (ℕ → ℕ) → ℕ → ℕ → ℕ → ℕ → List Step
of_ends kinds zero channel from to = []
of_ends kinds (suc n) channel from to = of_kinds (kinds channel) channel from to 1 ++ of_ends kinds n channel from (to + 1)

-- the runs that may come next at a boundary of a channel: by their ends, and within one end by their kinds
abbrev pub next_steps : (ℕ → ℕ) → ℕ → ℕ → List Step
next_steps kinds channel at = of_ends kinds (6 - at) channel at (at + 1)

-- what is still to come in a part, by potentials of coded channel, part and boundary: that of the channel in hand where it stands, and
-- those of the later channels from their start
abbrev pub rest : Game → (ℕ → ℕ → ℕ → ℕ) → ℕ → ℕ → ℕ → ℕ
rest g pot part channel at =
    if nat_lt channel g.channels
    then pot channel part at + sum_below (g.channels - channel - 1) (λ i. pot (channel + 1 + i) part 0)
    else 0

-- the lower bound in a part, and whether it is over the room
abbrev pub lower : Game → (ℕ → ℕ → ℕ → ℕ) → ℕ → List Step → ℕ
lower g pot part path = g.base part + spent g part path + rest g pot part (channel_of path) (boundary_of path)

abbrev pub over : Game → (ℕ → ℕ → ℕ → ℕ) → ℕ → List Step → Bool
over g pot part path = nat_lt (g.room part) (lower g pot part path)

abbrev pub closed : Game → (ℕ → ℕ → ℕ → ℕ) → List Step → Bool
closed g pot path = over g pot 0 path || over g pot 1 path || over g pot 2 path

-- each channel is decided to its end
abbrev pub whole : Game → List Step → Bool
whole g path = nat_le g.channels (channel_of path)

-- the nodes of the tree from a partial assignment on, down to a depth
unfoldable pub size : Game → (ℕ → ℕ → ℕ → ℕ) → ℕ → List Step → ℕ
size g pot zero path = 1
size g pot (suc n) path =
    if closed g pot path || whole g path
    then 1
    else 1 + total (λ s. size g pot n (s ∷ path)) (next_steps g.kinds (channel_of path) (boundary_of path))

-- the boundaries that are still to be passed
abbrev pub remaining : Game → List Step → ℕ
remaining g path = 6 * (g.channels - channel_of path) - boundary_of path

-- no run can come deeper than this
abbrev pub tree_size : Game → (ℕ → ℕ → ℕ → ℕ) → List Step → ℕ
tree_size g pot path = size g pot (6 * g.channels) path

-- no whole assignment that begins so passes a test
abbrev pub NonePasses : Game → (List Step → Type 0) → List Step → Type 0
NonePasses g Passes path =
    (steps : List Step) → IsWay g (channel_of path) (boundary_of path) steps → Passes (onto path steps) → ⊥
