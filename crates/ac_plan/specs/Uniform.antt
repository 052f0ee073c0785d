-- Uniform assignments that fit: this project's own.
use Rattle.std.specs.Prelude.{◌≡◌, ℕ, ◌<◌, ◌≤◌, true, false, List}
use Rattle.ac_base.specs.declared.shapes.Shape.{Shape}
use Rattle.ac_base.specs.Shape.{coded_of}
use Rattle.ac_base.specs.Words.{IsUniform, low_word, word_of}
use Rattle.ac_cost.specs.Parts.{FitsAt}
use Rattle.ac_bound.specs.Roots.{IsRoot}

-- all coded channels but LFE have this word, and LFE sends where it does
pub record IsUniformBy (shape : Shape) (word : List ℕ) (assign : List (List ℕ)) : Type 0 where
  pub others : (c : ℕ) → c < coded_of shape.acmod false shape.couple → word_of assign c ≡ word
  pub low : shape.lfe ≡ true → word_of assign (coded_of shape.acmod false shape.couple) ≡ low_word word

-- some word does it
abbrev pub IsUniformOf : Shape → List (List ℕ) → Type 0
IsUniformOf shape assign = IsUniform shape.acmod shape.lfe shape.couple assign

-- some uniform assignment fits
pub record UniformFits (shape : Shape) (raw : List (List (List ℕ))) (t : ℕ) : Type 0 where
  pub assign : List (List ℕ)
  pub is_uniform : IsUniformOf shape assign
  pub fits : FitsAt shape raw t assign

-- none does above an offset, up to another
abbrev pub NoneUniform : Shape → List (List (List ℕ)) → ℕ → ℕ → Type 0
NoneUniform shape raw s top = (t : ℕ) → s < t → t ≤ top → UniformFits shape raw t → ⊥

-- the floor: the greatest offset at which some does
pub record IsFloor (shape : Shape) (raw : List (List (List ℕ))) (g : ℕ) : Type 0 where
  pub within : g ≤ 1023
  pub fits : UniformFits shape raw g
  pub none_above : NoneUniform shape raw g 1023

-- the floor isn't above the root: a law of these definitions
abbrev pub FloorIsBelowRoot : Type 0
FloorIsBelowRoot =
    (shape : Shape) (raw : List (List (List ℕ))) (g r : ℕ) → IsFloor shape raw g → IsRoot shape raw r → g ≤ r

-- there is one floor at most
abbrev pub FloorIsOne : Type 0
FloorIsOne = (shape : Shape) (raw : List (List (List ℕ))) (g h : ℕ) → IsFloor shape raw g → IsFloor shape raw h → g ≡ h
