use Rattle.std.proofs.Common.{ap, ◌∙◌}
use Rattle.ac_base.specs.declared.spans.Span.{Span}
use Rattle.ac_cost.specs.Rows.{rows_of}
use Rattle.ac_windows.proofs.Holding.{held_rows}
use Rattle.ac_windows.proofs.channel.hold_channel.Goals as goal

pub returns : goal.returns
returns c =
    let s = c.args.shape.now in
    held_rows s c.args.raw.now.e c.args.c c.span-span.result c.encoder.result c.row_count.result c.fill_rows.new.out c.mask_rows.new.out c.requires.channel c.span-span.ensures.value (c.encoder.ensures.value s.sampling) (c.row_count.ensures.value ∙ ap (λ (x : Span). rows_of x.lead) c.span-span.ensures.value) c.fill_rows.ensures c.mask_rows.ensures
