use Rattle.std.proofs.Common.{◌<◌, ap, arith}
use Rattle.std.proofs.lemmas.Result.{err_from_is_err_and}
use Rattle.ac_base.specs.declared.shapes.Shape.{Shape}
use Rattle.ac_bound.specs.Steps.{kinds_of}
use Rattle.ac_bound.specs.Ways.{potential}
use Rattle.ac_claim.proofs.Answering.{stops, goes}
use Rattle.ac_claim.proofs.Firsts.{first-zero}
use Rattle.ac_claim.proofs.Looping.{kind_at}
use Rattle.ac_claim.proofs.potentials.kinds_test.Goals as goal

pub loop-coarser-init : goal.loop-coarser-init
loop-coarser-init c = record { few = omega arith; none = first-zero (kind_at c.args.basis.now.table.now (potential c.args.basis.now.pots.now.p) c.args.c c.args.part c.args.from c.args.to) }

pub returns-in_err-run_test : goal.returns-in_err-run_test
returns-in_err-run_test c =
    let i = c.loop-coarser.coarser in
    let p = err_from_is_err_and c.from_residual.result c.from_residual.ensures.1 in
    let same = ap (λ (s : Shape). kinds_of s c.args.c) c.requires.basis.same in
    let inside : i < kinds_of c.args.basis.now.table.now.shape c.args.c = omega (arith, c.loop-coarser-test.true, c.kinds-coarser-end.ensures, same) in
    rw (p.1, p.2) (stops (kinds_of c.args.basis.now.table.now.shape c.args.c) i (kind_at c.args.basis.now.table.now (potential c.args.basis.now.pots.now.p) c.args.c c.args.part c.args.from c.args.to) c.in_err-run_test.field-0.0 inside c.loop-coarser.invariant.none (c.in_err-run_test.ensures))

pub loop-coarser-preserved : goal.loop-coarser-preserved
loop-coarser-preserved c =
    let i = c.loop-coarser.coarser in
    let same = ap (λ (s : Shape). kinds_of s c.args.c) c.requires.basis.same in
    let inside : i < kinds_of c.args.basis.now.table.now.shape c.args.c = omega (arith, c.loop-coarser-test.true, c.kinds-coarser-end.ensures, same) in
    record { few = omega (arith, inside); none = goes i (kind_at c.args.basis.now.table.now (potential c.args.basis.now.pots.now.p) c.args.c c.args.part c.args.from c.args.to) c.in_ok-run_test.field-0 c.loop-coarser.invariant.none (c.in_ok-run_test.ensures) }
