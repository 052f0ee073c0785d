use Rattle.std.proofs.Common.{ℕ, ◌<◌}
use Rattle.ac_expo.specs.Groups.{IsRefused}
use Rattle.ac_expo.proofs.expanding.first_refused.Given as goal

abbrev pub invariant-loop-place : goal.invariant-loop-place
invariant-loop-place l = (earlier : ℕ) → earlier < l.place → IsRefused l.kind l.span l.spelled earlier → ⊥
