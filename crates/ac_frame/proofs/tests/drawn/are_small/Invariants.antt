use Rattle.std.proofs.Common.{ℕ, ◌<◌, [], slice_index_or}
use Rattle.ac_expo.specs.Raw.{AreSmallInBlocks, channel_span}
use Rattle.ac_frame.proofs.tests.drawn.are_small.Given as goal

abbrev pub invariant-loop-c : goal.invariant-loop-c
invariant-loop-c l = (c : ℕ) → c < l.c → AreSmallInBlocks (channel_span l.shape c) (slice_index_or l.coefs.c c [])
