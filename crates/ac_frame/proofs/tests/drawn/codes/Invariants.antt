use Rattle.std.proofs.Common.{◌≡◌, ℕ, ◌<◌, length}
use Rattle.ac_base.specs.Words.{IsWord, word_of}
use Rattle.ac_frame.proofs.tests.drawn.codes.Given as goal

abbrev pub invariant-loop-c : goal.invariant-loop-c
invariant-loop-c l = record {
  words : (c : ℕ) → c < l.c → IsWord (word_of l.assign.w c);
  long : length l.codes ≡ 7;
}
