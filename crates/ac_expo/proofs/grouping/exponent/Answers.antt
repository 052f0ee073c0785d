use Rattle.std.proofs.Common.{◌≡◌, ◌<◌, slice_index, arith, ap, sym, ◌∙◌}
use Rattle.ac_expo.specs.Steps.{bin_of}
use Rattle.ac_expo.specs.Groups.{reference, at_step}
use Rattle.ac_expo.proofs.Places.{at_first, at_bin, at_past}
use Rattle.ac_expo.proofs.grouping.exponent.Goals as goal

pub returns-then-at-eq0 : goal.returns-then-at-eq0
returns-then-at-eq0 c =
    let kind = c.args.kind in
    let span = c.args.span.now in
    let exps = c.args.exps.now in
    let zero : c.args.at ≡ 0 = c.if-at-eq0.true in
    c.before-then-at-eq0.ensures.value ∙ ap (reference span.lead) c.first.ensures ∙ sym (at_first kind span exps) ∙ ap (at_step kind span exps) (sym zero)

pub returns-then-bin-from : goal.returns-then-bin-from
returns-then-bin-from c =
    let kind = c.args.kind in
    let span = c.args.span.now in
    let exps = c.args.exps.now in
    let bin : c.first_bin-bin.result ≡ bin_of kind span c.args.at = c.first_bin-bin.ensures in
    let inside : c.first_bin-bin.result < span.end = omega (arith, c.if-bin-from.true, c.from.ensures) in
    ap (slice_index exps) bin ∙ sym (at_bin kind span exps c.args.at (omega (arith, c.if-at-eq0.false)) (omega arith))

pub returns-else-bin-from : goal.returns-else-bin-from
returns-else-bin-from c =
    let kind = c.args.kind in
    let span = c.args.span.now in
    let exps = c.args.exps.now in
    let bin : c.first_bin-bin.result ≡ bin_of kind span c.args.at = c.first_bin-bin.ensures in
    c.beyond.ensures ∙ sym (at_past kind span exps c.args.at (omega (arith, c.if-at-eq0.false)) (omega (arith, c.if-bin-from.false, c.from.ensures)))
