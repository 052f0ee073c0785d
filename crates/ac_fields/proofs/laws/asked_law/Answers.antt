use Rattle.ac_fields.proofs.Handed.{has_fields}
use Rattle.ac_fields.proofs.laws.asked_law.Goals as goal

pub returns : goal.returns
returns c = record { asked = has_fields }
