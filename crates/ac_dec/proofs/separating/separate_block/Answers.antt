use Rattle.std.proofs.Common.{◌≡◌, ◌<◌, take, length, sym, subst, ap, ◌∙◌, rules}
use Rattle.std.proofs.lemmas.List.{get_or_default}
use Rattle.ac_record.specs.Empty.{empty_block}
use Rattle.ac_rows.specs.Blocks.{Block}
use Rattle.ac_rows.specs.Filled.{filled_of, HasSpans}
use Rattle.ac_dec.specs.Heard.{block_at}
use Rattle.ac_dec.proofs.Whole.{block_apart}
use Rattle.ac_dec.proofs.separating.separate_block.Goals as goal

pub returns-clause-value : goal.returns-clause-value
returns-clause-value c =
    let g = c.args.codes.now in
    let b = c.args.b in
    let f = c.filled-block.result in
    let room : b < length g.block = search rules in
    let e : f ≡ block_at g b = c.filled-block.ensures ∙ ap (λ (x : Block). filled_of g.head (take b g.block) x) (get_or_default g.block b _ empty_block room) in
    let has : HasSpans g.head f = subst (HasSpans g.head) (sym e) c.requires.spans in
    block_apart g b f c.args.coefs.now.c c.uncouple.new.values.c c.unrematrix.new.values.c e c.requires.values
    (c.uncouple.ensures.value g.head c.spans-spans.ensures has) (c.unrematrix.ensures.value g.head c.spans-spans.ensures has) c.unrematrix.ensures.bound
