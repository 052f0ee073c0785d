-- An array of zeros is within every bound.
use Rattle.std.proofs.Common.{ℕ, [], ◌^◌, ◌<◌, ◌≤◌, ℤ, pos, slice_index_or, unsigned_abs, replicate, sym, subst, lit≤}
use Rattle.std.proofs.lemmas.List.{get_or-replicate}
use Rattle.ac_base.specs.Sigma.{Within}

pub silent : (n i : ℕ) → i < n → unsigned_abs (slice_index_or (replicate n (pos 0)) i (pos 0)) ≤ 2 ^ 23
silent n i below = subst (λ (z : ℤ). unsigned_abs z ≤ 2 ^ 23) (sym (get_or-replicate n i (pos 0) (pos 0) below)) (lit≤ tt)

-- and so is each row
pub silent_rows : (n m c : ℕ) → c < n → Within (2 ^ 23) m (slice_index_or (replicate n (replicate m (pos 0))) c [])
silent_rows n m c below = subst (Within (2 ^ 23) m) (sym (get_or-replicate n c (replicate m (pos 0)) [] below)) (silent m)
