use Rattle.std.proofs.Common.{◌≡◌, ℕ, ◌+◌, ◌*◌, ◌<◌, drop, length, reverse, slice_index}
use Rattle.std.specs.List.{AllByRecursion}
use Rattle.ac_seek.specs.Walks.{IsInPlace}
use Rattle.ac_seek.specs.Words.{code_at}
use Rattle.ac_seek.proofs.Codes.{code_in}
use Rattle.ac_claim.proofs.words.codes.Given as goal

abbrev pub invariant-loop-step : goal.invariant-loop-step
invariant-loop-step l = record {
  value : (c b : ℕ) → c < 7 → b < 6 → code_in (drop l.step-index (reverse l.path)) c b (slice_index l.codes (6 * c + b)) ≡ code_at l.path c b;
  long : length l.codes ≡ 42;
  each : AllByRecursion IsInPlace (drop l.step-index (reverse l.path));
}
