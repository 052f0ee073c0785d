-- A state of silence is one.
use Rattle.std.proofs.Common.{◌≡◌, ℕ, [], ◌^◌, ◌<◌, ◌≤◌, ℤ, pos, slice_index_or, unsigned_abs, replicate, sym, subst, lit≤}
use Rattle.std.proofs.lemmas.List.{get_or-replicate}
use Rattle.ac_base.specs.Sigma.{Within}
use Rattle.ac_dec.specs.Inside.{IsState}
use Rattle.ac_dec.specs.declared.state.State.{State}

silent : (i : ℕ) → i < 256 → unsigned_abs (slice_index_or (replicate 256 (pos 0)) i (pos 0)) ≤ 2 ^ 55
silent i below = subst (λ (z : ℤ). unsigned_abs z ≤ 2 ^ 55) (sym (get_or-replicate 256 i (pos 0) (pos 0) below)) (lit≤ tt)

pub silent_rows : (c : ℕ) → c < 6 → Within (2 ^ 55) 256 (slice_index_or (replicate 6 (replicate 256 (pos 0))) c [])
silent_rows c below = subst (Within (2 ^ 55) 256) (sym (get_or-replicate 6 c (replicate 256 (pos 0)) [] below)) silent

pub first_state : (held made : State) → held ≡ made → IsState made → IsState held
first_state held made same is = subst IsState (sym same) is
