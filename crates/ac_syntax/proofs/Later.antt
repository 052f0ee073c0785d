-- What is kept one block later.
use Rattle.std.proofs.Common.{◌≡◌, List, [], ◌∷◌, ◌++◌, refl}
use Rattle.ac_rows.specs.Blocks.{Block}
use Rattle.ac_rows.specs.Filled.{listed}
use Rattle.ac_rows.proofs.Later.{latest_more}
use Rattle.ac_syntax.specs.Latest.{over, latest_block}

pub latest_block_more : (b : Block) (bs : List Block) (d : Block) → latest_block b (bs ++ d ∷ []) ≡ over d (latest_block b bs)
unfolding latest_block listed
latest_block_more b bs d = simp latest_more refl
