use Rattle.std.proofs.Common.{◌≡◌, ℕ, ◌<◌, [], length, slice_index_or}
use Rattle.ac_base.specs.Words.{IsWord, word_of}
use Rattle.ac_claim.proofs.words.word_codes.Given as goal

abbrev pub invariant-loop-c : goal.invariant-loop-c
invariant-loop-c l = record {
  value : (c : ℕ) → c < l.c → slice_index_or l.codes c [] ≡ word_of l.a.w c;
  words : (c : ℕ) → c < l.c → IsWord (word_of l.a.w c);
  long : length l.codes ≡ 7;
}
