-- Steps of one block as levels, before and after they are spread (this project's own; steps: A/52 7.1.3).
-- Step g stands at place 16 + g of 288; a place without a bin has level 0, which is exponent 24.
use Rattle.std.specs.Prelude.{◌≡◌, ℕ, ◌+◌, ◌-◌, ◌*◌, ◌<◌, ◌≤◌, max, List, [], slice_index, slice_index_or}
use Rattle.ac_base.specs.declared.spans.Span.{Span}
use Rattle.ac_base.specs.Spans.{is_coupling}
use Rattle.ac_expo.specs.Least.{distance}
use Rattle.ac_expo.specs.Greatest.{raw_least, capped}
use Rattle.ac_levels.specs.Rows.{level_of}

-- the places have the least raw exponents of a block's steps, and bin 0 the cap of its 4 bits
pub record AreSteps (kind : ℕ) (span : Span) (raw : List (List ℕ)) (block : ℕ) (places : List ℕ) : Type 0 where
  pub first : slice_index places 16 ≡ level_of (capped (is_coupling span.lead) 0 (raw_least kind span raw block (block + 1) 0))
  pub later : (g : ℕ) → 0 < g → g < 272 → slice_index places (16 + g) ≡ level_of (raw_least kind span raw block (block + 1) g)
  pub before : (p : ℕ) → p < 16 → slice_index places p ≡ 0

-- the same of six blocks
abbrev pub AreBlockSteps : ℕ → Span → List (List ℕ) → List (List ℕ) → Type 0
AreBlockSteps kind span raw steps = (b : ℕ) → b < 6 → AreSteps kind span raw b (slice_index_or steps b [])

-- no place has a level
abbrev pub IsBlank : List ℕ → Type 0
IsBlank places = (p : ℕ) → slice_index places p ≡ 0

-- the places of n steps
abbrev pub IsPlace : ℕ → ℕ → Type 0
IsPlace n p = (16 ≤ p) × (p < 16 + n)

-- all other places are 0
abbrev pub IsZeroOutside : ℕ → List ℕ → Type 0
IsZeroOutside n places = (p : ℕ) → (IsPlace n p → ⊥) → slice_index places p ≡ 0

-- at place p stands the greatest of all levels at places q at most `reach` away, each less 16 |p - q|
pub record IsSpread (reach n : ℕ) (places spread : List ℕ) : Type 0 where
  pub above : (p q : ℕ) → IsPlace n p → IsPlace n q → distance p q ≤ reach → slice_index places q ≤ slice_index spread p + 16 * distance p q
  pub least : (p x : ℕ) → IsPlace n p → ((q : ℕ) → IsPlace n q → distance p q ≤ reach → slice_index places q ≤ x + 16 * distance p q)
      → slice_index spread p ≤ x
  pub outside : IsZeroOutside n spread

-- one pass: each place is raised to those d places away, less 16 d
abbrev pub IsPass : ℕ → ℕ → List ℕ → List ℕ → Type 0
IsPass n d old new = (p : ℕ) → IsPlace n p
    → slice_index new p ≡ max (slice_index old p) (max (slice_index old (p - d)) (slice_index old (p + d)) - 16 * d)

-- each of n steps of the next kind has two steps of this one, and step 0 stays; all other places are 0
pub record ArePairs (n : ℕ) (old new : List ℕ) : Type 0 where
  pub first : slice_index new 16 ≡ slice_index old 16
  pub later : (g : ℕ) → 0 < g → g < n → slice_index new (16 + g) ≡ max (slice_index old (15 + 2 * g)) (slice_index old (16 + 2 * g))
  pub before : (p : ℕ) → p < 16 → slice_index new p ≡ 0
  pub behind : (p : ℕ) → 16 + n ≤ p → slice_index new p ≡ 0
