use Rattle.std.proofs.Common.{◌≡◌, ◌∙◌, ap}
use Rattle.ac_rows.specs.Blocks.{Block}
use Rattle.ac_rows.specs.Groups.{strategy_of}
use Rattle.ac_rows.specs.declared.groups.Coupling.{Coupling}
use Rattle.ac_rows.specs.Filled.{over, coupling_of, coupling_in}
use Rattle.ac_syntax.specs.Filling.{filled_by}
use Rattle.ac_syntax.specs.Latest.{latest_block}
use Rattle.ac_syntax.proofs.Whole.{strategy_kept, filled_is}
use Rattle.ac_syntax.proofs.filling.filled.Goals as goal

pub returns : goal.returns
returns c =
    let h = c.args.head.now in
    let b = c.args.block.now in
    let bs = c.args.earlier.now in
    let coupling : c.coupling_in-coupling.result ≡ coupling_in bs b =
    c.coupling_in-coupling.ensures
    ∙ ap (λ (k : Block). coupling_of (over (strategy_of b) (strategy_of k))) c.latest-kept.ensures
    ∙ ap coupling_of (strategy_kept b bs) in
    c.filled_by.ensures
    ∙ ap (λ (k : Block). filled_by h c.coupling_in-coupling.result k b) c.latest-kept.ensures
    ∙ ap (λ (x : Coupling). filled_by h x (latest_block b bs) b) coupling
    ∙ filled_is h b bs
