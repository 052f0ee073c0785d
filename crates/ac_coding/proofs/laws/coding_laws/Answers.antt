use Rattle.ac_coding.proofs.Agreeing.{by_spans, by_coefficients}
use Rattle.ac_coding.proofs.OneFrame.{one, back, size}
use Rattle.ac_coding.proofs.Values.{are_quantised}
use Rattle.ac_coding.proofs.laws.coding_laws.Goals as goal

pub returns : goal.returns
returns c = record { quantised = are_quantised; one = one; back = back; spans = by_spans; agree = by_coefficients; size = size }
