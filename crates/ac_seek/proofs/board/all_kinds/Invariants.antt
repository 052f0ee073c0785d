use Rattle.std.proofs.Common.{◌≡◌, ◌<◌, ℕ, length, slice_index}
use Rattle.ac_bound.specs.Steps.{kinds_of}
use Rattle.ac_seek.proofs.board.all_kinds.Given as goal

abbrev pub invariant-loop-c : goal.invariant-loop-c
invariant-loop-c l = (length l.all ≡ 7) × ((c : ℕ) → c < l.c → slice_index l.all c ≡ kinds_of l.shape c)
