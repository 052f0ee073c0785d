-- The window is at most 2 ^ 15.
use Rattle.std.proofs.Common.{ℕ, ◌<◌, ◌≤◌, ◌^◌, refl, slice_index}
use Rattle.std.specs.Prelude.{nat_le}
use Rattle.std.proofs.lemmas.Bool.{leb-true}
use Rattle.ac_base.proofs.Tests.{all_below-at}
use Rattle.ac_base.specs.Window.{window_list}

pub window_bound : (i : ℕ) → i < 256 → slice_index window_list i ≤ 2 ^ 15
window_bound i below = leb-true _ _ (all_below-at 256 (λ k. nat_le (slice_index window_list k) (2 ^ 15)) refl i below)
