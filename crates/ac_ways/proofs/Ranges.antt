-- The steps of the loops over kinds and ends, at one of the offsets.
use Rattle.std.proofs.Common.{◌≡◌, ℕ, ◌+◌, ◌<◌, ◌≤◌, min, sym, ap, ◌∙◌, subst}
use Rattle.ac_expo.specs.Raw.{channels}
use Rattle.ac_cost.specs.Records.{AtOffset}
use Rattle.ac_cost.specs.Sixths.{run_sixths}
use Rattle.ac_bound.specs.Least.{IsLeast}
use Rattle.ac_bound.specs.Steps.{kinds_of, between, IsKindBelow, IsLeastBetween, IsLeastOn}
use Rattle.ac_bound.proofs.Leasts.{kinds_first, kinds_more, range_first, range_more}

module _ (v : AtOffset) (c part from to : ℕ) where
  abbrev cost : ℕ → ℕ
  cost kind = run_sixths v.shape v.raw v.t part c (between from to kind)

  pub first_kind : (x : ℕ) → x ≡ cost 1 → IsLeastBetween v c part from to 2 x
  first_kind x e = subst (IsLeast (IsKindBelow 2) cost) (sym e) (kinds_first cost)

  pub next_kind : (n x y z : ℕ) → 1 ≤ n → IsLeastBetween v c part from to n x → y ≡ cost n → z ≡ min x y → IsLeastBetween v c part from to (n + 1) z
  next_kind n x y z some is e so =
      subst (IsLeast (IsKindBelow (n + 1)) cost) (sym (so ∙ ap (min x) e)) (kinds_more cost n x some is)

module _ (v : AtOffset) (c part at : ℕ) (l : c < channels v.shape) (after : ℕ → ℕ) where
  pub first_end : (place n x : ℕ) → at < 6 → place ≡ at + 1 → IsLeastBetween v c part at (at + 1) (kinds_of v.shape c + 1) n → x ≡ n + after place → IsLeastOn v c part at (at + 2) after x
  first_end place n x low e is so =
      subst (IsLeastOn v c part at (at + 2) after) (sym (so ∙ ap (λ k. n + after k) e)) (range_first v c part at l after n low is)

  pub next_end : (to place m n x y : ℕ) → at < to → to ≤ 6 → place ≡ to → IsLeastOn v c part at to after m → IsLeastBetween v c part at to (kinds_of v.shape c + 1) n → x ≡ n + after place → y ≡ min m x → IsLeastOn v c part at (to + 1) after y
  next_end to place m n x y order end e known is so lesser =
      subst (IsLeastOn v c part at (to + 1) after) (sym (lesser ∙ ap (min m) (so ∙ ap (λ k. n + after k) e)))
      (range_more v c part at l after to m n order end known is)
