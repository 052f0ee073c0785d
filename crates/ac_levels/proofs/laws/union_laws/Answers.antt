use Rattle.ac_levels.proofs.Unions.{two, blocks, greatest}
use Rattle.ac_levels.proofs.laws.union_laws.Goals as goal

pub returns : goal.returns
returns c = record { two = two; blocks = blocks; greatest = greatest }
