use Rattle.std.proofs.Common.{◌≡◌, ◌++◌, ◌∷◌, ◌+◌, [], ◌∙◌, ap, sym, List, take}
use Rattle.std.proofs.lemmas.List.{take_more}
use Rattle.ac_rows.specs.Blocks.{Block}
use Rattle.ac_syntax.specs.Latest.{over, latest_block}
use Rattle.ac_syntax.proofs.Later.{latest_block_more}
use Rattle.ac_syntax.proofs.latest.latest.Goals as goal

pub loop-before-preserved : goal.loop-before-preserved
loop-before-preserved c =
    let l = c.loop-before in
    let bs = c.args.earlier.now in
    let b = c.before-item.result in
    let next : take (l.before-index + 1) bs ≡ take l.before-index bs ++ b ∷ [] =
    take_more bs l.before-index b c.loop-before-test.true ∙ ap (λ (x : Block). take l.before-index bs ++ x ∷ []) (sym c.before-item.is) in
    c.over-kept.ensures ∙ (ap (λ (k : Block). over b k) l.invariant
    ∙ (sym (latest_block_more c.args.block.now (take l.before-index bs) b)
    ∙ ap (λ (x : List Block). latest_block c.args.block.now x) (sym next)))
