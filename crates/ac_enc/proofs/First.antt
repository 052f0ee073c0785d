-- A state that is the same keeps the same.
use Rattle.std.proofs.Common.{◌≡◌, sym, subst}
use Rattle.ac_enc.specs.State.{IsState}
use Rattle.ac_enc.specs.declared.state.State.{State}

pub first_state : (held made : State) → held ≡ made → IsState made → IsState held
first_state held made same is = subst IsState (sym same) is
