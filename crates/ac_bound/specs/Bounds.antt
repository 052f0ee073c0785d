-- Lower bounds of what assignments cost, in sixths of a bit.
use Rattle.std.specs.Prelude.{◌≡◌, ℕ, ◌+◌, ◌-◌, ◌*◌, ◌^◌, ◌<◌, ◌≤◌, nat_lt, if◌then◌else◌, List, [], ◌∷◌, ◌++◌, slice_index}
use Rattle.ac_base.specs.declared.runs.Run.{Run}
use Rattle.ac_base.specs.declared.shapes.Shape.{Shape}
use Rattle.ac_base.specs.Fit.{side_of, rooms_of}
use Rattle.ac_base.specs.Sigma.{sum_below}
use Rattle.ac_base.specs.Words.{Tile, runs_of, word_of}
use Rattle.ac_expo.specs.Raw.{channels}
use Rattle.ac_cost.specs.Sixths.{part_of, runs_sixths}
use Rattle.ac_bound.specs.declared.bounds.Partial.{Partial}

-- what can be asked about: the channels below `done` are whole, and channel `done` is decided to a boundary
pub record IsPartial (shape : Shape) (partial : Partial) : Type 0 where
  pub coded : partial.done ≤ channels shape
  pub boundary : partial.at ≤ 6
  pub start : partial.done ≡ channels shape → partial.at ≡ 0
  pub small : (part : ℕ) → part < 3 → slice_index partial.spent part ≤ 2 ^ 40

-- what is still to come in a part: the potential of the channel in hand where it stands, and those of the later channels from their start
abbrev pub rest_of : Shape → (ℕ → ℕ → ℕ → ℕ) → ℕ → ℕ → ℕ → ℕ
rest_of shape pot done at part =
    if nat_lt done (channels shape)
    then pot done part at + sum_below (channels shape - done - 1) (λ i. pot (done + 1 + i) part 0)
    else 0

-- the lower bound of a partial assignment in a part: the side bits, what is decided, and what is still to come
abbrev pub lower_of : Shape → (ℕ → ℕ → ℕ → ℕ) → Partial → ℕ → ℕ
lower_of shape pot partial part =
    6 * part_of (side_of shape.acmod shape.lfe shape.couple) part + slice_index partial.spent part
    + rest_of shape pot partial.done partial.at part

-- nothing is decided
abbrev pub nothing : Partial
nothing = record { done = 0; at = 0; spent = 0 ∷ 0 ∷ 0 ∷ [] }

-- bounds of which that of some part is over six times the part's room
pub record IsOver (shape : Shape) (bound : ℕ → ℕ) : Type 0 where
  pub part : ℕ
  pub is_part : part < 3
  pub over : 6 * part_of (rooms_of shape.words) part < bound part

-- an assignment completes a partial one whose sixths are those of what is decided: the words of whole channels, and runs of the channel in
-- hand, if there is one, up to where it stands
pub record Completes (shape : Shape) (raw : List (List (List ℕ))) (t : ℕ) (partial : Partial) (assign : List (List ℕ)) : Type 0 where
  pub decided : List Run
  pub later : List Run
  pub runs : partial.done < channels shape → runs_of (word_of assign partial.done) ≡ decided ++ later
  pub tiles : partial.done < channels shape → Tile partial.at 6 later
  pub whole : partial.done ≡ channels shape → decided ≡ []
  pub spent : (part : ℕ) → part < 3 → slice_index partial.spent part
      ≡ sum_below partial.done (λ c. runs_sixths shape raw t part c (runs_of (word_of assign c)))
      + runs_sixths shape raw t part partial.done decided
