use Rattle.std.proofs.Common.{refl}
use Rattle.ac_rows.specs.BlockRows.{whole_block}
use Rattle.ac_codec.specs.Codec.{pair}
use Rattle.ac_row_reading.proofs.block.read_whole.Goals as goal

pub returns : goal.returns
unfolding whole_block pair
returns c =
    ((c.in_ok-block.block, c.in_ok-pass.ensures.0), refl, rw (c.in_ok-block.ensures, ← c.skipped.ensures, c.in_ok-pass.ensures.2) refl)
