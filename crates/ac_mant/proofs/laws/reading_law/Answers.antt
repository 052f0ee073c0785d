use Rattle.ac_mant.proofs.Clauses.{one_reading}
use Rattle.ac_mant.proofs.laws.reading_law.Goals as goal

pub returns : goal.returns
returns c = one_reading
