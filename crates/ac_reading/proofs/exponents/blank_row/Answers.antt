use Rattle.ac_reading.proofs.Rows.{zero_at}
use Rattle.ac_reading.proofs.exponents.blank_row.Goals as goal

pub returns : goal.returns
returns c = λ k. zero_at 256 k
