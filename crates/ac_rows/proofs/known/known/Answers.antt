use Rattle.std.proofs.Common.{◌≡◌, ◌++◌, ◌∷◌, ◌+◌, [], ◌∙◌, ap, sym, take}
use Rattle.std.proofs.lemmas.List.{take_more}
use Rattle.ac_rows.specs.Blocks.{Block}
use Rattle.ac_rows.specs.declared.groups.Known.{Known}
use Rattle.ac_rows.specs.Known.{known_of, after}
use Rattle.ac_rows.proofs.Later.{known_more}
use Rattle.ac_rows.proofs.known.known.Goals as goal

pub loop-block-preserved : goal.loop-block-preserved
loop-block-preserved c =
    let l = c.loop-block in
    let bs = c.args.earlier.now in
    let b = c.block-item.result in
    let next : take (l.block-index + 1) bs ≡ take l.block-index bs ++ b ∷ [] =
    take_more bs l.block-index b c.loop-block-test.true ∙ ap (λ (x : Block). take l.block-index bs ++ x ∷ []) (sym c.block-item.is) in
    c.after-known.ensures ∙ (ap (λ (k : Known). after k b) l.invariant
    ∙ (sym (known_more (take l.block-index bs) b) ∙ ap known_of (sym next)))
