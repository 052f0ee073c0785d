use Rattle.std.proofs.Common.{refl}
use Rattle.ac_base.specs.declared.cosine_table.TheConstants.{QUARTER}
use Rattle.ac_base.specs.Quarter.{root, half, angle}
use Rattle.ac_base.proofs.Walk.{quarter_walked}
use Rattle.ac_base.proofs.cosine_table.quarter.Goals as goal

pub returns : goal.returns
unfolding root half angle
returns c = quarter_walked QUARTER refl refl refl
