-- A block filled by what was kept is the filled block.
use Rattle.std.proofs.Common.{◌≡◌, List, refl}
use Rattle.ac_rows.specs.Blocks.{Block}
use Rattle.ac_rows.specs.declared.head.Head.{Head}
use Rattle.ac_rows.specs.Groups.{strategy_of}
use Rattle.ac_rows.specs.Filled.{listed, over, latest_strategy, coupling_in, filled_of}
use Rattle.ac_syntax.specs.Filling.{filled_by}
use Rattle.ac_syntax.specs.Latest.{latest_block}

pub strategy_kept : (b : Block) (bs : List Block) → over (strategy_of b) (strategy_of (latest_block b bs))
    ≡ over (strategy_of b) (latest_strategy bs)
unfolding latest_block listed
strategy_kept b bs = refl

pub filled_is : (h : Head) (b : Block) (bs : List Block) → filled_by h (coupling_in bs b) (latest_block b bs) b ≡ filled_of h bs b
unfolding filled_of latest_block listed
filled_is h b bs = refl
