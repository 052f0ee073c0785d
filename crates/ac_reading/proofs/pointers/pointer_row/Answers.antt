use Rattle.std.proofs.Common.{◌∙◌}
use Rattle.ac_alloc.specs.Pointers.{pointer}
use Rattle.ac_reading.proofs.Rows.{row_from, zero_at}
use Rattle.ac_reading.proofs.Steps.{pointer_small, row_small, outside_span}
use Rattle.ac_reading.proofs.pointers.pointer_row.Goals as goal

pub returns-clause-value : goal.returns-clause-value
returns-clause-value c =
    row_from c.args.span.now (λ k. pointer c.args.silent c.args.p.now c.args.span.now c.args.exps.now k c.args.t) c.baps.new.out
    (λ k i. c.baps.ensures.value c.args.p.now (c.of-mask.ensures.masks, c.of-mask.ensures.floor) k i)
    (λ k out. c.baps.ensures.rest k (outside_span c.args.span.now k out) ∙ zero_at 256 k)

pub returns-clause-small : goal.returns-clause-small
returns-clause-small c =
    row_small c.args.span.now (λ k. pointer c.args.silent c.args.p.now c.args.span.now c.args.exps.now k c.args.t) c.baps.new.out (returns-clause-value c)
    (λ k. pointer_small c.args.silent c.args.p.now c.args.span.now c.args.exps.now k c.args.t)
