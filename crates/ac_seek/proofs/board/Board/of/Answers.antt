use Rattle.std.proofs.Common.{◌≡◌, ◌<◌, ℕ, slice_index, sym, subst}
use Rattle.ac_base.specs.declared.shapes.Shape.{Shape}
use Rattle.ac_expo.specs.Raw.{channels}
use Rattle.ac_bound.specs.Steps.{kinds_of}
use Rattle.ac_bound.specs.Ways.{potential}
use Rattle.ac_seek.specs.Boards.{AreLimits}
use Rattle.ac_seek.proofs.Places.{limits-any}
use Rattle.ac_seek.proofs.board.Board.of.Goals as goal

pub returns-clause-board : goal.returns-clause-board
returns-clause-board g c =
    let v = g.C.RunCosts.offset c.args.table.now in
    let p = potential c.args.pots.now.p in
    let limits = subst (λ (shape : Shape). AreLimits shape p c.limits.result) (sym c.requires.same) c.limits.ensures in
    record {
      same = c.requires.same;
      costs = c.costs.ensures.value;
      small = c.costs.ensures.small;
      kinds = subst (λ (shape : Shape). (d : ℕ) → d < channels shape → slice_index c.all_kinds.result d ≡ kinds_of shape d) (sym c.requires.same) c.all_kinds.ensures;
      limits = λ q also. limits-any v p q c.limits.result c.requires.potentials also limits;
    }
