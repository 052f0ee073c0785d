use Rattle.std.proofs.Common.{◌≡◌, ℕ, [], ◌∷◌, List, ap, refl, slice_index, arith}
use Rattle.ac_bound.specs.Ways.{potential}
use Rattle.ac_bound.proofs.Threes.{of_three}
use Rattle.ac_seek.proofs.board.bound.Goals as goal

pub returns : goal.returns
returns c = record {
  value = λ channel at part low p e.
      let is = c.stand.ensures.value in
      let bound = c.lower.ensures.value part p in
      let none = ap (λ (row : List ℕ). slice_index row part) is.nothing in
      let zero = of_three (λ q. slice_index (0 ∷ 0 ∷ 0 ∷ []) q ≡ 0) refl refl refl part p in
      let rest = is.rests (potential c.args.pots.now.p) channel at part low e in
      omega (arith, bound, none, zero, rest);
}
