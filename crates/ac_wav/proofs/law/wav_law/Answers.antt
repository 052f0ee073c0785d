use Rattle.ac_wav.proofs.Whole.{wav_never_both, wav_one_head, wav_one_refusal, wav_each, each_within, never_ends_and_needs, never_refused_and_needs, never_ends_and_refused}
use Rattle.ac_wav.proofs.law.wav_law.Goals as goal

pub returns : goal.returns
returns c = record {
  never_both = wav_never_both;
  one_head = wav_one_head;
  one_refusal = wav_one_refusal;
  each = wav_each;
  each_within = each_within;
  never_ends_and_needs = never_ends_and_needs;
  never_refused_and_needs = never_refused_and_needs;
  never_ends_and_refused = never_ends_and_refused;
}
