use Rattle.std.proofs.Common.{refl}
use Rattle.ac_rows.specs.HeadRows.{whole_head}
use Rattle.ac_codec.specs.Codec.{pair}
use Rattle.ac_row_reading.proofs.head.read_whole.Goals as goal

pub returns : goal.returns
unfolding whole_head pair
returns c =
    ((c.in_ok-head.head, c.in_ok-pass.ensures.0), refl, rw (c.in_ok-head.ensures, ← c.extra.ensures.value, c.in_ok-pass.ensures.2) refl)
