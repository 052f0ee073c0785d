use Rattle.ac_expo.proofs.Numbers.{one, each}
use Rattle.ac_expo.proofs.laws.word_laws.Goals as goal

pub returns : goal.returns
returns c = record { one = one; each = each }
