use Rattle.std.proofs.Common.{◌≡◌, ◌<◌, ℕ, length, subst, ap, ◌∙◌, arith, length-set}
use Rattle.ac_base.specs.Allocation.{bins}
use Rattle.ac_base.specs.declared.spans.Span.{Span}
use Rattle.ac_expo.specs.Raw.{channel_span}
use Rattle.ac_alloc.specs.Integration.{AreExponents}
use Rattle.ac_cost.specs.declared.listed.Listed.{Listed}
use Rattle.ac_cost.specs.Rows.{run_of, rows_of}
use Rattle.ac_cost.specs.Lists.{not_listed, IsListed}
use Rattle.ac_cost.proofs.Listing.{set_more, listed_all}
use Rattle.ac_cost.proofs.listed.list_channel.Goals as goal

pub loop-row-preserved : goal.loop-row-preserved
loop-row-preserved c =
    let i = c.loop-row in
    let P : ℕ → Listed → Type 0 = λ row l. IsListed c.args.shape.now c.args.raw.now.e c.args.c (run_of row) l in
    let Q : ℕ → Listed → Type 0 = λ row l. AreExponents 0 bins l.exps in
    let in_range : i.row < length i.out = omega (arith, c.row_count-count.ensures.bound, i.invariant.long, c.loop-row-test.true) in
    let new = subst (λ r. IsListed c.args.shape.now c.args.raw.now.e c.args.c r c.list_run.result) c.run_at.ensures.value c.list_run.ensures.value in
    record {
      done = set_more P i.out i.row c.list_run.result not_listed in_range i.invariant.done new;
      small = set_more Q i.out i.row c.list_run.result not_listed in_range i.invariant.small c.list_run.ensures.small;
      long = length-set i.out i.row c.list_run.result ∙ i.invariant.long;
    }

pub returns : goal.returns
returns c =
    let i = c.loop-row in
    let e : c.row_count-count.result ≡ rows_of (channel_span c.args.shape.now c.args.c).lead =
    c.row_count-count.ensures.value ∙ ap (λ (s : Span). rows_of s.lead) c.span.ensures.value in
    record { value = listed_all c.args.shape.now c.args.raw.now.e c.args.c c.row_count-count.result i.out e (λ row l. i.invariant.done row (omega (arith, c.loop-row-test.false))) (λ row l. i.invariant.small row (omega (arith, c.loop-row-test.false))) }
