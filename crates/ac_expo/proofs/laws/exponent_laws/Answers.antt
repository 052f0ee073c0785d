use Rattle.ac_expo.proofs.Formula.{formula, one, exists}
use Rattle.ac_expo.proofs.Zeros.{raw_greatest}
use Rattle.ac_expo.proofs.Spellings.{back}
use Rattle.ac_expo.proofs.laws.exponent_laws.Goals as goal

pub returns : goal.returns
returns c = record { raw = raw_greatest; formula = formula; exists = exists; one = one; back = back }
