use Rattle.std.proofs.Common.{◌≡◌, ◌^◌, ◌-◌, ◌<◌, ℕ, [], length, slice_index_or}
use Rattle.ac_base.specs.Sigma.{Within}
use Rattle.ac_enc.specs.Frame.{AreTransformed, joined_by}
use Rattle.ac_enc.proofs.transform.transform_channels.Given as goal

abbrev pub invariant-loop-c : goal.invariant-loop-c
invariant-loop-c l = record {
  long : length l.coefs.c ≡ 7;
  value : (c : ℕ) → c < l.c → AreTransformed (joined_by l.last l.pcm c) (slice_index_or l.coefs.c c []);
  bound : (c b : ℕ) → c < l.c → b < 6 → Within (2 ^ 24 - 1) 256 (slice_index_or (slice_index_or l.coefs.c c []) b []);
}
