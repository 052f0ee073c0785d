use Rattle.std.proofs.Common.{◌≡◌, ℕ, ◌<◌, [], length, slice_index_or}
use Rattle.ac_expo.specs.Raw.{AreRawInBlocks, channel_span, KeepsElsewhere}
use Rattle.ac_expo.proofs.raws.write_channels.Given as goal

abbrev pub invariant-loop-c : goal.invariant-loop-c
invariant-loop-c l =
    (length l.out.e ≡ 7)
    × ((c : ℕ) → c < l.c → AreRawInBlocks (channel_span l.shape c) (slice_index_or l.coefs.c c []) (slice_index_or l.out.e c []))
    × KeepsElsewhere l.shape l.fn.out.e l.out.e
