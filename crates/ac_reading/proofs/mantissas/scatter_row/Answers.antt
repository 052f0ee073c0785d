use Rattle.std.proofs.lemmas.List.{length-replicate}
use Rattle.std.proofs.Common.{ℕ, length-set, arith, ◌∙◌, ap, slice_index}
use Rattle.ac_base.specs.Spans.{IsIn}
use Rattle.ac_reading.proofs.Rows.{zero_at}
use Rattle.ac_reading.proofs.Steps.{scatter_in_at, scatter_out}
use Rattle.ac_reading.proofs.mantissas.scatter_row.Goals as goal

pub loop-k-init : goal.loop-k-init
loop-k-init c = record { len = length-replicate {A = ℕ} 256 0; from = omega arith; inside = λ k le lt. absurd (omega arith); outside = λ k out. zero_at 256 k }

pub loop-k-preserved : goal.loop-k-preserved
loop-k-preserved c =
    let l = c.loop-k in
    let inside : IsIn c.args.span.now c.from.result = (omega (arith, c.from.ensures, l.auto.k), omega (arith, c.from.ensures, c.loop-k-test.true)) in
    record {
      len = length-set l.row c.from.result _ ∙ l.invariant.len;
      from = omega (arith, l.invariant.from, l.auto.k);
      inside = scatter_in_at l.row c.args.flat.now c.args.at c.args.span.now.start l.k c.from.result _ c.from.ensures (omega (arith, l.invariant.len, c.loop-k-test.true)) (ap (slice_index c.args.flat.now) l.invariant.from) l.invariant.inside;
      outside = scatter_out c.args.span.now l.row c.from.result _ inside l.invariant.outside;
    }
