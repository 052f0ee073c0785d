-- Leaves.
use Rattle.std.proofs.Common.{◌≡◌, ℕ, ◌+◌, ◌-◌, ◌*◌, ◌<◌, ◌≤◌, true, false, List, [], ◌∷◌, MatchOption, Option, Some, None, slice_index, refl, sym, ap, ◌∙◌, subst, arith}
use Rattle.std.proofs.lemmas.Bool.{lt-ltb, le-ltb}
use Rattle.ac_base.specs.declared.shapes.Shape.{Shape}
use Rattle.ac_base.specs.declared.sizes.Part.{Part}
use Rattle.ac_base.specs.declared.sizes.Parts.{Parts}
use Rattle.ac_base.specs.Fit.{rooms_of, FitIn}
use Rattle.ac_base.specs.Sizes.{least_words}
use Rattle.ac_expo.specs.Raw.{channels}
use Rattle.ac_cost.specs.Parts.{parts_at, FitsAt}
use Rattle.ac_cost.specs.Records.{AtOffset}
use Rattle.ac_cost.specs.Sixths.{part_of}
use Rattle.ac_bound.specs.Bounds.{lower_of, rest_of}
use Rattle.ac_seek.specs.declared.step.Step.{Step}
use Rattle.ac_seek.specs.Games.{channel_of, boundary_of}
use Rattle.ac_seek.specs.Trees.{lower, over, closed}
use Rattle.ac_seek.specs.Words.{game_of, words_of}
use Rattle.ac_claim.specs.Potentials.{number_of}
use Rattle.ac_claim.proofs.Firsts.{part-few}
use Rattle.ac_trees.specs.declared.node.Node.{Node}
use Rattle.ac_trees.specs.Leaves.{IsOverIn, AreWithin, AreWithinRooms}
use Rattle.ac_trees.specs.Nodes.{IsAt, IsUnfit}

-- ---- closed
lower-is : (v : AtOffset) (pot : ℕ → ℕ → ℕ → ℕ) (path : List Step) (node : Node) (part : ℕ) → IsAt v path node → part < 3 → lower_of v.shape pot node.partial part ≡ lower (game_of v) pot part path
lower-is v pot path node part is p =
    let held = is.held in
    let here : rest_of v.shape pot node.partial.done node.partial.at part ≡ rest_of v.shape pot (channel_of path) (boundary_of path) part = ap (λ d. rest_of v.shape pot d node.partial.at part) held.done ∙ ap (λ b. rest_of v.shape pot (channel_of path) b part) held.at in
    omega (arith, here, held.right part p)

module _ (v : AtOffset) (shape : Shape) (same : v.shape ≡ shape) (pot : ℕ → ℕ → ℕ → ℕ) (path : List Step) (node : Node) (bounds : List ℕ) (is : IsAt v path node) (low : (part : ℕ) → part < 3 → slice_index bounds part ≡ lower_of shape pot node.partial part) where
  bound-is : (part : ℕ) → part < 3 → slice_index bounds part ≡ lower (game_of v) pot part path
  bound-is part p =
      low part p ∙ (ap (λ (s : Shape). lower_of s pot node.partial part) (sym same) ∙ lower-is v pot path node part is p)

  room-is : (part : ℕ) → (game_of v).room part ≡ 6 * part_of (rooms_of shape.words) part
  room-is part = ap (λ (s : Shape). 6 * part_of (rooms_of s.words) part) same

  open-in : (part : ℕ) → part < 3 → AreWithin shape (slice_index bounds) → over (game_of v) pot part path ≡ false
  open-in part p within =
      le-ltb ((game_of v).room part) (lower (game_of v) pot part path) (omega (arith, bound-is part p, room-is part, within part p))

  none-over : AreWithin shape (slice_index bounds) → closed (game_of v) pot path ≡ false
  none-over within =
      let a = open-in 0 (omega arith) within in
      let b = open-in 1 (omega arith) within in
      let d = open-in 2 (omega arith) within in
      rw (a, b, d) refl

  some-over : (part : ℕ) → part < 3 → IsOverIn shape (slice_index bounds) part → over (game_of v) pot part path ≡ true
  some-over part p o =
      lt-ltb ((game_of v).room part) (lower (game_of v) pot part path) (omega (arith, bound-is part p, room-is part, o))

  pub closing-is : (found : Option Part) → MatchOption found (AreWithin shape (slice_index bounds)) (λ part. IsOverIn shape (slice_index bounds) (number_of part)) → MatchOption found (closed (game_of v) pot path ≡ false) (λ part. over (game_of v) pot (number_of part) path ≡ true)
  closing-is None h = none-over h
  closing-is (Some part) h = some-over (number_of part) (part-few part) h

-- ---- whole
fit-within : (words : ℕ) (parts : Parts) → least_words ≤ words → AreWithinRooms parts (rooms_of words) → FitIn words parts
fit-within words parts least h =
    let a = h 0 (omega arith) in
    let b = h 1 (omega arith) in
    let d = h 2 (omega arith) in
    record { in_front = a; whole = b; at_end = omega (arith, d, least) }

-- a whole assignment that doesn't fit has a part that is over its room
pub none-within : (v : AtOffset) (shape : Shape) (node : Node) (parts rooms : Parts) → v.shape ≡ shape → (w : IsUnfit v node) → channels v.shape ≤ node.partial.done → ((path : List Step) → IsAt v path node → parts ≡ parts_at v.shape v.raw v.t (words_of path)) → rooms ≡ rooms_of shape.words → AreWithinRooms parts rooms → ⊥
none-within v shape node parts rooms same w past sums e within =
    let words : rooms ≡ rooms_of v.shape.words = e ∙ ap (λ (s : Shape). rooms_of s.words) (sym same) in
    let h = subst (λ (r : Parts). AreWithinRooms parts r) words within in
    let fits : FitsAt v.shape v.raw v.t (words_of w.path) = subst (λ (p : Parts). FitIn v.shape.words p) (sums w.path w.is_at) (fit-within v.shape.words parts v.shape.least_size h) in
    w.none [] (omega (arith, past, w.is_at.held.done)) fits
