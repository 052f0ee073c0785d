use Rattle.ac_dec.proofs.First.{first_state, silent_rows}
use Rattle.ac_dec.proofs.decoder.Decoder.new.Goals as goal

pub invariant_of-result : goal.invariant_of-result
invariant_of-result c = first_state c.in-Ok.state.value _ c.in-Ok.ensures.ok silent_rows
