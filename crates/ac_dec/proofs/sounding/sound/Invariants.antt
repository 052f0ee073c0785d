use Rattle.std.proofs.Common.{◌≡◌, ◌^◌, ◌<◌, ◌≤◌, ℕ, [], length, slice_index_or}
use Rattle.ac_base.specs.Sigma.{Within}
use Rattle.ac_dec.specs.Sounding.{coded_block, AreSounds, AreRest}
use Rattle.ac_dec.proofs.sounding.sound.Given as goal

abbrev pub invariant-loop-c : goal.invariant-loop-c
invariant-loop-c l = record {
  long : length l.out ≡ 6;
  delays_long : length l.delays ≡ 6;
  sound : (c : ℕ) → c < l.c → AreSounds (coded_block l.coefs.c l.full l.used c) (slice_index_or l.fn.delays c []) 6 (slice_index_or l.out c []);
  left : (c : ℕ) → c < l.c → AreRest (coded_block l.coefs.c l.full l.used c) (slice_index_or l.fn.delays c []) 6 (slice_index_or l.delays c []);
  kept : (c : ℕ) → l.c ≤ c → slice_index_or l.delays c [] ≡ slice_index_or l.fn.delays c [];
  bound : (c : ℕ) → c < 6 → Within (2 ^ 55) 256 (slice_index_or l.delays c []);
  rest : (c : ℕ) → l.c ≤ c → slice_index_or l.out c [] ≡ slice_index_or l.fn.out c [];
}
