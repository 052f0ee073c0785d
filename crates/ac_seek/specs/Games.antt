-- Partial assignments of exponent strategies, and what completes them: lists of runs, channel by channel, in each channel from the first
-- block on. This project's own.
use Rattle.std.specs.Prelude.{◌≡◌, ℕ, ◌+◌, ◌<◌, ◌≤◌, ◌==◌, if◌then◌else◌, List, [], ◌∷◌}
use Rattle.ac_seek.specs.declared.step.Step.{Step}

-- what a search at one offset is about: how many coded channels there are, how many kinds of exponents each takes, and, by part, what a
-- run costs, what is spent before any run, and the room
pub record Game : Type 0 where
  pub channels : ℕ
  pub kinds : ℕ → ℕ
  pub cost : ℕ → Step → ℕ
  pub base : ℕ → ℕ
  pub room : ℕ → ℕ

-- where a run leads: a channel, and a boundary between its blocks; behind the last block the next channel begins
abbrev pub channel_after : Step → ℕ
channel_after s = if s.run.to == 6 then s.channel + 1 else s.channel

abbrev pub boundary_after : Step → ℕ
boundary_after s = if s.run.to == 6 then 0 else s.run.to

-- a run that may come next at this boundary of this channel
pub record IsNext (g : Game) (channel at : ℕ) (s : Step) : Type 0 where
  pub inside : channel < g.channels
  pub same : s.channel ≡ channel
  pub starts : s.run.from ≡ at
  pub later : at < s.run.to
  pub ends : s.run.to ≤ 6
  pub some_kind : 1 ≤ s.run.kind
  pub kind : s.run.kind ≤ g.kinds channel

-- the runs, earliest first, lead from this boundary to the end of the last channel
abbrev pub IsWay : Game → ℕ → ℕ → List Step → Type 0
IsWay g channel at [] = g.channels ≤ channel
IsWay g channel at (s ∷ steps) = IsNext g channel at s × IsWay g (channel_after s) (boundary_after s) steps

-- a partial assignment is the list of its runs, latest first: the channel in hand, and its boundary
abbrev pub channel_of : List Step → ℕ
channel_of [] = 0
channel_of (s ∷ path) = channel_after s

abbrev pub boundary_of : List Step → ℕ
boundary_of [] = 0
boundary_of (s ∷ path) = boundary_after s

-- each run may come where it stands
abbrev pub IsPath : Game → List Step → Type 0
IsPath g [] = Unit {0}
IsPath g (s ∷ path) = IsNext g (channel_of path) (boundary_of path) s × IsPath g path

-- a partial assignment with further runs, earliest first
abbrev pub onto : List Step → List Step → List Step
onto path [] = path
onto path (s ∷ steps) = onto (s ∷ path) steps

-- what the runs cost in a part
abbrev pub spent : Game → ℕ → List Step → ℕ
spent g part [] = 0
spent g part (s ∷ path) = g.cost part s + spent g part path
