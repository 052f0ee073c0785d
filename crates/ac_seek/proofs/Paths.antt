-- A partial assignment has at most as many runs as boundaries behind it, and where it stands is within the frame.
use Rattle.std.proofs.Common.{◌≡◌, ℕ, ◌+◌, ◌-◌, ◌*◌, ◌^◌, ◌<◌, ◌≤◌, true, false, List, [], ◌∷◌, length, slice_index, slice_index_or, eqb, refl, sym, ap, ◌∙◌, inl, inr, subst, arith}
use Rattle.std.proofs.lemmas.Bool.{cases_eq, eq-eqb, ne_eqb}
use Rattle.std.specs.List.{AllByRecursion}
use Rattle.ac_expo.specs.Raw.{channels, channel_span}
use Rattle.ac_cost.specs.Records.{AtOffset}
use Rattle.ac_cost.specs.Runs.{IsRunOf}
use Rattle.ac_cost.proofs.Assigning.{coded-few}
use Rattle.ac_bound.specs.declared.bounds.Partial.{Partial}
use Rattle.ac_bound.proofs.Leasts.{kinds-most}
use Rattle.ac_seek.specs.declared.board.Board.{Board}
use Rattle.ac_seek.specs.declared.step.Step.{Step}
use Rattle.ac_seek.specs.Boards.{place_of, IsBoard}
use Rattle.ac_seek.specs.Games.{Game, IsNext, IsPath, channel_of, boundary_of, channel_after, boundary_after, spent}
use Rattle.ac_seek.specs.Trees.{remaining}
use Rattle.ac_seek.specs.Walks.{Holds, IsInPlace}
use Rattle.ac_seek.specs.Words.{game_of}

pub record IsShort (g : Game) (path : List Step) : Type 0 where
  pub channel : channel_of path ≤ g.channels
  pub boundary : boundary_of path < 6
  pub runs : remaining g path + length path ≤ 6 * g.channels

short_step : (g : Game) (path : List Step) (s : Step) → IsNext g (channel_of path) (boundary_of path) s → IsShort g path → IsShort g (s ∷ path)
short_step g path s ok so = elim (cases_eq s.run.to 6) [
  | inl e ↦
      let t : eqb s.run.to 6 ≡ true = eq-eqb s.run.to 6 e in
      record {
        channel = rw t (omega (arith, ok.inside, ok.same));
        boundary = rw t (omega arith);
        runs = rw t (omega (arith, ok.inside, ok.same, ok.later, so.runs, so.boundary));
      }
  | inr other ↦
      let f : eqb s.run.to 6 ≡ false = ne_eqb s.run.to 6 other in
      record {
        channel = rw f (omega (arith, ok.inside, ok.same));
        boundary = rw f (omega (arith, ok.ends));
        runs = rw f (omega (arith, ok.inside, ok.same, ok.later, ok.ends, so.runs));
      }
]

pub IsShort-path : (g : Game) (path : List Step) → IsPath g path → IsShort g path
IsShort-path g [] is = record { channel = omega arith; boundary = omega arith; runs = omega arith }
IsShort-path g (s ∷ path) is = short_step g path s is.0 (IsShort-path g path is.1)

-- ---- costs
abbrev pub IsCheap : Game → Type 0
IsCheap g = (part channel at : ℕ) (s : Step) → part < 3 → IsNext g channel at s → g.cost part s ≤ 2 ^ 19

spent-small : (g : Game) (part : ℕ) (path : List Step) → IsCheap g → part < 3 → IsPath g path → spent g part path ≤ length path * 2 ^ 19
spent-small g part [] cheap p is = omega arith
spent-small g part (s ∷ path) cheap p is =
    omega (arith, cheap part (channel_of path) (boundary_of path) s p is.0, spent-small g part path cheap p is.1)

pub Holds-small : (g : Game) (path : List Step) (partial : Partial) → Holds g path partial → g.channels ≤ 7 → IsCheap g → (part : ℕ) → part < 3 → slice_index partial.spent part ≤ 2 ^ 40
Holds-small g path partial held few cheap part p =
    omega (arith, held.right part p, spent-small g part path cheap p held.valid, (IsShort-path g path held.valid).runs)

-- one more run may be decided
pub Holds-room : (g : Game) (path : List Step) (partial : Partial) (s : Step) → Holds g path partial → g.channels ≤ 7 → IsNext g (channel_of path) (boundary_of path) s → length path < 42
Holds-room g path partial s held few ok =
    omega (arith, (IsShort-path g path held.valid).runs, (IsShort-path g path held.valid).boundary, ok.inside)

-- ---- runs of the game of an offset
pub next-run : (v : AtOffset) (channel at : ℕ) (s : Step) → IsNext (game_of v) channel at s → IsRunOf v.shape s.channel s.run
next-run v channel at s ok =
    let in_place : s.channel < channels v.shape = omega (arith, ok.inside, ok.same) in
    record {
      channel = in_place;
      is_run = record {
        order = omega (arith, ok.starts, ok.later);
        blocks = ok.ends;
        some = ok.some_kind;
        kind = omega (arith, ok.kind, kinds-most (channel_span v.shape channel).lead);
      };
      taken = subst (λ c. s.run.kind ≤ (game_of v).kinds c) (sym ok.same) ok.kind;
    }

pub place-few : (s : Step) → s.channel < 7 → s.run.from < s.run.to → s.run.to ≤ 6 → 1 ≤ s.run.kind → s.run.kind ≤ 3 → place_of s < 882
place-few s c o b m k = omega arith

pub board-cost : {C : Type 0} (offset : C → AtOffset) (board : Board C) (channel at part : ℕ) (s : Step) → IsBoard offset board → IsNext (game_of (offset board.table.now)) channel at s → part < 3 → slice_index (slice_index_or board.costs (place_of s) []) part ≡ (game_of (offset board.table.now)).cost part s
board-cost offset board channel at part s is ok p =
    let run = next-run (offset board.table.now) channel at s ok in
    let few : s.channel < 7 = omega (arith, run.channel, coded-few (offset board.table.now).shape) in
    is.costs (place_of s) (place-few s few run.is_run.order run.is_run.blocks run.is_run.some run.is_run.kind) s part run p refl

pub board-row : {C : Type 0} (offset : C → AtOffset) (board : Board C) (channel at k : ℕ) (s : Step) → IsBoard offset board → IsNext (game_of (offset board.table.now)) channel at s → k ≡ place_of s → (part : ℕ) → part < 3 → slice_index (slice_index_or board.costs k []) part ≡ (game_of (offset board.table.now)).cost part s
board-row offset board channel at k s is ok e part p =
    ap (λ i. slice_index (slice_index_or board.costs i []) part) e ∙ board-cost offset board channel at part s is ok p

pub board-cheap : {C : Type 0} (offset : C → AtOffset) (board : Board C) → IsBoard offset board → IsCheap (game_of (offset board.table.now))
board-cheap offset board is part channel at s p ok =
    omega (arith, board-cost offset board channel at part s is ok p, is.small (place_of s) part)

-- ---- one run more, and one less
pub Holds-add : (g : Game) (path : List Step) (old new : Partial) (s : Step) (row : List ℕ) → Holds g path old → IsNext g (channel_of path) (boundary_of path) s → ((part : ℕ) → part < 3 → slice_index row part ≡ g.cost part s) → new.done ≡ channel_after s → new.at ≡ boundary_after s → ((part : ℕ) → part < 3 → slice_index new.spent part ≡ slice_index old.spent part + slice_index row part) → Holds g (s ∷ path) new
Holds-add g path old new s row held ok cost done at sums = record {
  valid = (ok, held.valid);
  done = done;
  at = at;
  right = λ part p. omega (arith, held.right part p, cost part p, sums part p);
}

pub Holds-take : (g : Game) (path : List Step) (old new : Partial) (s : Step) (row : List ℕ) → Holds g (s ∷ path) old → ((part : ℕ) → part < 3 → slice_index row part ≡ g.cost part s) → new.done ≡ s.channel → new.at ≡ s.run.from → ((part : ℕ) → part < 3 → slice_index new.spent part ≡ slice_index old.spent part - slice_index row part) → Holds g path new
Holds-take g path old new s row held cost done at sums = record {
  valid = held.valid.1;
  done = done ∙ held.valid.0.same;
  at = at ∙ held.valid.0.starts;
  right = λ part p. omega (arith, held.right part p, cost part p, sums part p);
}

pub Holds-less : (g : Game) (path : List Step) (old : Partial) (s : Step) (row : List ℕ) → Holds g (s ∷ path) old → ((part : ℕ) → part < 3 → slice_index row part ≡ g.cost part s) → (part : ℕ) → part < 3 → slice_index row part ≤ slice_index old.spent part
Holds-less g path old s row held cost part p = omega (arith, held.right part p, cost part p)

-- nothing is decided
pub Holds-none : (g : Game) (partial : Partial) → partial.done ≡ 0 → partial.at ≡ 0 → ((part : ℕ) → part < 3 → slice_index partial.spent part ≡ 0) → Holds g [] partial
Holds-none g partial done at sums = record { valid = tt; done = done; at = at; right = sums }

-- ---- each run is one of a frame's
pub path-in_place : (v : AtOffset) (path : List Step) → IsPath (game_of v) path → AllByRecursion IsInPlace path
path-in_place v [] is = tt
path-in_place v (s ∷ path) is =
    ((omega (arith, is.0.inside, is.0.same, coded-few v.shape), omega (arith, is.0.starts, is.0.later, is.0.ends)), path-in_place v path is.1)
