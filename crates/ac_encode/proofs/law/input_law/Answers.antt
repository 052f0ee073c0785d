use Rattle.ac_encode.proofs.Inputs.{each, never_both, never_longer, never_refused, never_low, never_refused_low, never_longer_low, one_input, one_refusal, one_low}
use Rattle.ac_encode.proofs.law.input_law.Goals as goal

pub returns : goal.returns
returns c = record {
  each = each;
  never_both = never_both;
  never_longer = never_longer;
  never_refused = never_refused;
  never_low = λ o bytes part needed room t. (
    λ head i. never_low o bytes part needed room head t i,
    λ kind place r. never_refused_low o bytes part needed room kind place t r,
    λ l. never_longer_low o bytes part needed room t l,
  );
  one_head = one_input;
  one_refusal = one_refusal;
  one_low = one_low;
}
