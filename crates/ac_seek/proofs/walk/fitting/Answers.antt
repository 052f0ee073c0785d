use Rattle.std.proofs.Common.{◌≡◌, ◌≤◌, false, sym, ap, ◌∙◌, subst, arith}
use Rattle.ac_base.specs.declared.shapes.Shape.{Shape}
use Rattle.ac_base.specs.Words.{IsWord}
use Rattle.ac_expo.specs.Raw.{channels}
use Rattle.ac_cost.specs.Parts.{FitsAt}
use Rattle.ac_cost.specs.Records.{AtOffset}
use Rattle.ac_cost.specs.Runs.{IsAssignmentOf, TakesLow}
use Rattle.ac_seek.specs.Games.{channel_of}
use Rattle.ac_seek.proofs.Filling.{words-each, rows-are, all-rows}
use Rattle.ac_seek.proofs.Paths.{path-in_place}
use Rattle.ac_seek.proofs.Sames.{takes-low}
use Rattle.ac_seek.proofs.Wholes.{path-words}
use Rattle.ac_seek.proofs.walk.fitting.Goals as goal

pub codes-requires : goal.codes-requires
codes-requires g c = path-in_place (g.C.RunCosts.offset c.args.board.now.table.now) c.args.path.now c.requires.held.valid

pub assignment-assign-requires : goal.assignment-assign-requires
assignment-assign-requires g c = λ k l.
    let v = g.C.RunCosts.offset c.args.board.now.table.now in
    let path = c.args.path.now in
    let past : channels v.shape ≤ channel_of path = omega (arith, c.requires.whole, c.requires.held.done) in
    subst IsWord (sym (rows-are c.codes.result path k (λ b m. c.codes.ensures k b l m))) (words-each v path c.requires.held.valid past k l)

pub assign_fits-requires : goal.assign_fits-requires
assign_fits-requires g c =
    let v = g.C.RunCosts.offset c.args.board.now.table.now in
    let path = c.args.path.now in
    let past : channels v.shape ≤ channel_of path = omega (arith, c.requires.whole, c.requires.held.done) in
    let words = c.assignment-assign.ensures ∙ all-rows c.codes.result path c.codes.ensures in
    record {
      same = ap (λ (u : AtOffset). u.shape) (c.learn.ensures ∙ c.requires.known) ∙ c.requires.board.same;
      low = subst (λ (s : Shape). TakesLow s c.assignment-assign.result.w) c.requires.board.same
          (takes-low v.shape c.assignment-assign.result.w (subst (IsAssignmentOf v.shape) (sym words) (path-words v path c.requires.held.valid past)));
    }

pub returns-then-assign_fits : goal.returns-then-assign_fits
returns-then-assign_fits g c =
    let v = g.C.RunCosts.offset c.args.board.now.table.now in
    let path = c.args.path.now in
    let past : channels v.shape ≤ channel_of path = omega (arith, c.requires.whole, c.requires.held.done) in
    let words = c.assignment-assign.ensures ∙ all-rows c.codes.result path c.codes.ensures in
    record {
      some = subst (IsAssignmentOf v.shape) (sym words) (path-words v path c.requires.held.valid past);
      fits = subst (λ (s : Shape). FitsAt s v.raw v.t c.assignment-assign.result.w) (sym c.requires.board.same)
          (subst (λ (u : AtOffset). FitsAt c.args.board.now.shape.now u.raw u.t c.assignment-assign.result.w) (c.learn.ensures ∙ c.requires.known)
          (c.assign_fits.ensures.value.0 c.if-assign_fits.true));
      none = λ e. absurd cc;
      kept = c.learn.ensures;
    }

pub returns-else-assign_fits : goal.returns-else-assign_fits
returns-else-assign_fits g c =
    let v = g.C.RunCosts.offset c.args.board.now.table.now in
    let path = c.args.path.now in
    let words = c.assignment-assign.ensures ∙ all-rows c.codes.result path c.codes.ensures in
    record {
      some = tt;
      fits = tt;
      none = λ e fits.
          let here = subst (λ (s : Shape). FitsAt s v.raw v.t c.assignment-assign.result.w) c.requires.board.same (subst (FitsAt v.shape v.raw v.t) (sym words) fits) in
          let true_is = c.assign_fits.ensures.value.1
          (subst (λ (u : AtOffset). FitsAt c.args.board.now.shape.now u.raw u.t c.assignment-assign.result.w) (sym (c.learn.ensures ∙ c.requires.known)) here) in
          let false_is : c.assign_fits.result ≡ false = c.if-assign_fits.false in
          absurd cc;
      kept = c.learn.ensures;
    }
