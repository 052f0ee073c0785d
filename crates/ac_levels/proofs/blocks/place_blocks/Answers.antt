use Rattle.std.proofs.Common.{arith, refl}
use Rattle.ac_levels.proofs.Reaching.{blank_rows}
use Rattle.ac_levels.proofs.blocks.place_blocks.Goals as goal

pub loop-b-init : goal.loop-b-init
loop-b-init c = (refl, λ b h. absurd (omega arith), λ b low high. blank_rows b high)
