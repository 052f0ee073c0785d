use Rattle.ac_alloc.proofs.Keyed.{lowest_is_sent, baps_are_by_key, channels_are_by_key, sixths_rise}
use Rattle.ac_alloc.proofs.laws.key_laws.Goals as goal

pub returns-clause-floor : goal.returns-clause-floor
returns-clause-floor c = lowest_is_sent

pub returns-clause-keys : goal.returns-clause-keys
returns-clause-keys c = baps_are_by_key

pub returns-clause-channels : goal.returns-clause-channels
returns-clause-channels c = channels_are_by_key

pub returns-clause-rises : goal.returns-clause-rises
returns-clause-rises c = sixths_rise
