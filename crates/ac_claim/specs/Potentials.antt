-- Tests of potentials: this project's own. A potential is a lower bound of what the rest of a channel's word costs from a boundary between
-- blocks on, where no run costs less than what the potentials fall by.
use Rattle.std.specs.Prelude.{ℕ, zero, suc, ◌+◌, ◌-◌, nat_lt, if◌then◌else◌, [], Option, Some, None}
use Rattle.ac_base.specs.declared.runs.Run.{Run}
use Rattle.ac_base.specs.declared.sizes.Part.{Part}
use Rattle.ac_base.specs.declared.sizes.Part.TheVariants.{Front, Total, Last}
use Rattle.ac_expo.specs.Raw.{channels}
use Rattle.ac_cost.specs.Records.{AtOffset}
use Rattle.ac_cost.specs.Sixths.{run_sixths}
use Rattle.ac_bound.specs.Steps.{kinds_of, between}
use Rattle.ac_seek.specs.Trees.{lower, closed}
use Rattle.ac_seek.specs.Words.{game_of}
use Rattle.ac_claim.specs.declared.no.No.{No}
use Rattle.ac_claim.specs.declared.no.No.TheVariants.{Potential, Loose}

-- the first fault of two
abbrev pub or_else : Option No → Option No → Option No
or_else None other = other
or_else (Some fault) other = Some fault

-- the first fault of n things, numbered from 0
unfoldable pub first_below : ℕ → (ℕ → Option No) → Option No
first_below zero fault = None
first_below (suc n) fault = or_else (first_below n fault) (fault n)

-- the number of a part
abbrev pub number_of : Part → ℕ
number_of Front = 0
number_of Total = 1
number_of Last = 2

-- the first fault of the three parts
abbrev pub first_part : (Part → Option No) → Option No
first_part fault = or_else (fault Front) (or_else (fault Total) (fault Last))

-- a run costs less than what the potentials fall by from its first block to its end: they are given by coded channel, number of the part
-- and boundary
abbrev pub run_no : AtOffset → (ℕ → ℕ → ℕ → ℕ) → ℕ → Part → Run → Option No
run_no v pot c part run =
    let left = pot c (number_of part) run.from in
    let right = run_sixths v.shape v.raw v.t (number_of part) c run + pot c (number_of part) run.to in
    if nat_lt right left then Some (Potential v.t c part run left right) else None

-- the first such run of a channel in a part: by first block, end and kind
abbrev pub kinds_no : AtOffset → (ℕ → ℕ → ℕ → ℕ) → ℕ → Part → ℕ → ℕ → Option No
kinds_no v pot c part from to = first_below (kinds_of v.shape c) (λ i. run_no v pot c part (between from to (i + 1)))

abbrev pub ends_no : AtOffset → (ℕ → ℕ → ℕ → ℕ) → ℕ → Part → ℕ → Option No
ends_no v pot c part from = first_below (6 - from) (λ i. kinds_no v pot c part from (from + 1 + i))

abbrev pub starts_no : AtOffset → (ℕ → ℕ → ℕ → ℕ) → ℕ → Part → Option No
starts_no v pot c part = first_below 6 (ends_no v pot c part)

-- and of all coded channels
abbrev pub pots_no : AtOffset → (ℕ → ℕ → ℕ → ℕ) → Option No
pots_no v pot = first_below (channels v.shape) (λ c. first_part (starts_no v pot c))

-- no part's lower bound of the assignment of which nothing is decided is over its room: the sides are those of the whole frame
abbrev pub empty_no : AtOffset → (ℕ → ℕ → ℕ → ℕ) → Option No
empty_no v pot =
    if closed (game_of v) pot [] then None else Some (Loose v.t Total (lower (game_of v) pot 1 []) ((game_of v).room 1))
