use Rattle.ac_words.proofs.Split.{one_meaning}
use Rattle.ac_words.proofs.laws.words_mean_one_thing.Goals as goal

pub returns : goal.returns
returns c = one_meaning
