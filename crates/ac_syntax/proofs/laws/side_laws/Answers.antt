use Rattle.ac_syntax.proofs.SideLaws.{head_is_side}
use Rattle.ac_syntax.proofs.BlockSide.{first_is_side, later_is_side}
use Rattle.ac_syntax.proofs.laws.side_laws.Goals as goal

pub returns-clause-head : goal.returns-clause-head
returns-clause-head c = head_is_side

pub returns-clause-first : goal.returns-clause-first
returns-clause-first c = first_is_side

pub returns-clause-later : goal.returns-clause-later
returns-clause-later c = later_is_side
