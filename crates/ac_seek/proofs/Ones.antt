-- Potentials are one, and so is the size of the tree.
use Rattle.std.proofs.Common.{◌≡◌, ℕ, zero, suc, ◌+◌, ◌-◌, ◌*◌, ◌<◌, ◌≤◌, Bool, true, false, List, [], ◌∷◌, cond, refl, sym, ap, ap₂, ◌∙◌, inl, inr, arith}
use Rattle.std.specs.Prelude.{◌||◌, nat_lt}
use Rattle.std.proofs.lemmas.Bool.{cases_lt, lt-ltb, le-ltb, leb-false}
use Rattle.ac_expo.specs.Raw.{channels}
use Rattle.ac_cost.specs.Records.{AtOffset}
use Rattle.ac_cost.proofs.Covering.{sum_same-below}
use Rattle.ac_bound.specs.Bounds.{rest_of}
use Rattle.ac_bound.specs.Ways.{ArePots}
use Rattle.ac_seek.specs.declared.step.Step.{Step}
use Rattle.ac_seek.specs.Games.{IsPath, channel_of, boundary_of, spent}
use Rattle.ac_seek.specs.Trees.{total, next_steps, over, closed, whole, size, tree_size}
use Rattle.ac_seek.specs.Words.{game_of, IsTreeSize}
use Rattle.ac_seek.proofs.Paths.{IsShort-path}
use Rattle.ac_seek.proofs.Sizes.{total_same, cond_same, or_right, all_next}

module _ (v : AtOffset) (p q : ℕ → ℕ → ℕ → ℕ) (are : ArePots v p) (also : ArePots v q) where
  pots-same : (c part at : ℕ) → c < channels v.shape → part < 3 → at ≤ 6 → p c part at ≡ q c part at
  pots-same c part at l k m =
      let x = are c part at l k m in
      let y = also c part at l k m in
      let a = x.least y.one y.is_one in
      let b = y.least x.one x.is_one in
      omega (arith, a, b, x.met, y.met)

  pub rest-same : (channel at part : ℕ) → part < 3 → at ≤ 6 → rest_of v.shape p channel at part ≡ rest_of v.shape q channel at part
  rest-same channel at part k m = elim (cases_lt channel (channels v.shape)) [
    | inl l ↦
        let t : nat_lt channel (channels v.shape) ≡ true = lt-ltb channel (channels v.shape) l in
        let here = pots-same channel part at l k m in
        let later = sum_same-below (channels v.shape - channel - 1) (λ i. p (channel + 1 + i) part 0) (λ i. q (channel + 1 + i) part 0) (λ i j. pots-same (channel + 1 + i) part 0 (omega arith) k (omega arith)) in
        rw t (omega (arith, here, later))
    | inr past ↦
        let t : nat_lt channel (channels v.shape) ≡ false = le-ltb channel (channels v.shape) past in
        rw t refl
  ]

  over-same : (part : ℕ) (path : List Step) → part < 3 → IsPath (game_of v) path → over (game_of v) p part path ≡ over (game_of v) q part path
  over-same part path k is =
      let g = game_of v in
      let low = (IsShort-path g path is).boundary in
      ap (λ x. nat_lt (g.room part) (g.base part + spent g part path + x)) (rest-same (channel_of path) (boundary_of path) part k (omega (arith, low)))

  closed-same : (path : List Step) → IsPath (game_of v) path → closed (game_of v) p path ≡ closed (game_of v) q path
  closed-same path is =
      ap₂ (λ (a b : Bool). a || b) (ap₂ (λ (a b : Bool). a || b) (over-same 0 path (omega arith) is) (over-same 1 path (omega arith) is)) (over-same 2 path (omega arith) is)

  size-same : (n : ℕ) (path : List Step) → IsPath (game_of v) path → size (game_of v) p n path ≡ size (game_of v) q n path
  unfolding size
  size-same zero path is = refl
  size-same (suc n) path is =
      let g = game_of v in
      let next = next_steps g.kinds (channel_of path) (boundary_of path) in
      ap (λ (b : Bool). cond (b || whole g path) 1 (1 + total (λ s. size g p n (s ∷ path)) next)) (closed-same path is)
      ∙ cond_same (closed g q path || whole g path) 1 (1 + total (λ s. size g p n (s ∷ path)) next) (1 + total (λ s. size g q n (s ∷ path)) next)
      (λ o. ap (λ x. 1 + x) (total_same (λ s. size g p n (s ∷ path)) (λ s. size g q n (s ∷ path)) next
      (all_next (λ s. size g p n (s ∷ path) ≡ size g q n (s ∷ path)) g (channel_of path) (boundary_of path) (leb-false g.channels (channel_of path) (or_right (closed g q path) (whole g path) o)) (λ s ok. size-same n (s ∷ path) (ok, is)))))

  pub tree-same : tree_size (game_of v) p [] ≡ tree_size (game_of v) q []
  tree-same = size-same (6 * channels v.shape) [] tt

pub one-size : (v : AtOffset) (m n : ℕ) → IsTreeSize v m → IsTreeSize v n → m ≡ n
one-size v m n x y = sym x.nodes ∙ (tree-same v x.pot y.pot x.are y.are ∙ y.nodes)
