-- What a search looks up: the sixths of each run, and from how many spent sixths on a partial assignment is closed where it stands.
use Rattle.std.specs.Prelude.{◌≡◌, ℕ, ◌+◌, ◌-◌, ◌*◌, ◌^◌, ◌<◌, ◌≤◌, List, [], ◌∷◌, length, slice_index, slice_index_or, Option, None, IfSome}
use Rattle.ac_base.specs.declared.shapes.Shape.{Shape}
use Rattle.ac_base.specs.Fit.{side_of, rooms_of}
use Rattle.ac_expo.specs.Raw.{channels}
use Rattle.ac_mant.specs.declared.counts.Counts.{Counts}
use Rattle.ac_mant.specs.Counts.{tally}
use Rattle.ac_cost.specs.Pointers.{run_tally}
use Rattle.ac_cost.specs.Prices.{AreFew}
use Rattle.ac_cost.specs.Records.{AtOffset}
use Rattle.ac_cost.specs.Runs.{IsRunOf}
use Rattle.ac_cost.specs.Sixths.{part_of, run_sixths}
use Rattle.ac_bound.specs.declared.bounds.Partial.{Partial}
use Rattle.ac_bound.specs.Bounds.{IsPartial, rest_of}
use Rattle.ac_bound.specs.Steps.{kinds_of}
use Rattle.ac_bound.specs.Ways.{ArePots}
use Rattle.ac_seek.specs.declared.step.Step.{Step}
use Rattle.ac_seek.specs.declared.board.Board.{Board}

-- the place of a run: by channel, kind, first block and the block behind its last
abbrev pub place_of : Step → ℕ
place_of s = 126 * s.channel + 42 * (s.run.kind - 1) + 7 * s.run.from + s.run.to

-- the sixths of the run of a place in each part
abbrev pub HasCost : AtOffset → ℕ → List ℕ → Type 0
HasCost v place row =
    (s : Step) (part : ℕ) → IsRunOf v.shape s.channel s.run → part < 3 → place_of s ≡ place
    → slice_index row part ≡ run_sixths v.shape v.raw v.t part s.channel s.run

-- at each place those of its run
abbrev pub AreCosts : AtOffset → List (List ℕ) → Type 0
AreCosts v costs = (place : ℕ) → place < 882 → HasCost v place (slice_index_or costs place [])

-- no run costs more
abbrev pub AreSmall : List (List ℕ) → Type 0
AreSmall costs = (place part : ℕ) → slice_index (slice_index_or costs place []) part ≤ 2 ^ 19

-- the lower bound of a partial assignment in a part where nothing is spent, by where it stands
abbrev pub bound_of : Shape → (ℕ → ℕ → ℕ → ℕ) → ℕ → ℕ → ℕ → ℕ
bound_of shape pot channel at part = 6 * part_of (side_of shape.acmod shape.lfe shape.couple) part + rest_of shape pot channel at part

-- the least spent sixths that close it
abbrev pub limit_of : Shape → (ℕ → ℕ → ℕ → ℕ) → ℕ → ℕ → ℕ → ℕ
limit_of shape pot channel at part = 6 * part_of (rooms_of shape.words) part + 1 - bound_of shape pot channel at part

-- those of a place, which counts 6 for each channel and 1 for each boundary
abbrev pub HasBound : Shape → (ℕ → ℕ → ℕ → ℕ) → ℕ → List ℕ → Type 0
HasBound shape pot place row =
    (channel at part : ℕ) → at < 6 → part < 3 → 6 * channel + at ≡ place → slice_index row part ≡ bound_of shape pot channel at part

abbrev pub HasLimit : Shape → (ℕ → ℕ → ℕ → ℕ) → ℕ → List ℕ → Type 0
HasLimit shape pot place row =
    (channel at part : ℕ) → at < 6 → part < 3 → 6 * channel + at ≡ place → slice_index row part ≡ limit_of shape pot channel at part

-- at the boundaries of the coded channels, and behind the last
abbrev pub AreLimits : Shape → (ℕ → ℕ → ℕ → ℕ) → List (List ℕ) → Type 0
AreLimits shape pot limits = (place : ℕ) → place < 6 * channels shape + 6 → HasLimit shape pot place (slice_index_or limits place [])

-- all of it, at the offset of what tells the costs
pub record IsBoard {C : Type 0} (offset : C → AtOffset) (board : Board C) : Type 0 where
  pub same : (offset board.table.now).shape ≡ board.shape.now
  pub costs : AreCosts (offset board.table.now) board.costs
  pub small : AreSmall board.costs
  pub limits : (pot : ℕ → ℕ → ℕ → ℕ) → ArePots (offset board.table.now) pot → AreLimits (offset board.table.now).shape pot board.limits
  pub kinds : (c : ℕ) → c < channels (offset board.table.now).shape → slice_index board.kinds c ≡ kinds_of (offset board.table.now).shape c

-- the mantissas of the run of a place
abbrev pub HasCount : AtOffset → ℕ → Counts → Type 0
HasCount v place counts =
    (s : Step) → IsRunOf v.shape s.channel s.run → place_of s ≡ place
    → (tally counts ≡ run_tally v.shape v.raw v.t s.channel s.run) × AreFew 1 counts

-- those of the places that were counted
pub record AreKnown (v : AtOffset) (counts : List (Option Counts)) : Type 0 where
  pub each : (place : ℕ) → IfSome (slice_index_or counts place None) (HasCount v place)
  pub long : length counts ≡ 882

-- what is decided at a place, with nothing spent; behind the last channel nothing is in hand
pub record IsStand (shape : Shape) (place : ℕ) (partial : Partial) : Type 0 where
  pub is_partial : IsPartial shape partial
  pub nothing : partial.spent ≡ 0 ∷ 0 ∷ 0 ∷ []
  pub rests : (pot : ℕ → ℕ → ℕ → ℕ) (channel at part : ℕ) → at < 6 → 6 * channel + at ≡ place
      → rest_of shape pot partial.done partial.at part ≡ rest_of shape pot channel at part
