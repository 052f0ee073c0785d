use Rattle.ac_bound.proofs.Completing.{lower-below}
use Rattle.ac_bound.proofs.Offsets.{closed_stays, below_root}
use Rattle.ac_bound.proofs.Onward.{exists}
use Rattle.ac_bound.proofs.Spelling.{ways_words}
use Rattle.ac_bound.proofs.laws.bound_laws.Goals as goal

pub returns : goal.returns
returns c = record { ways = ways_words; exists = exists; below = lower-below; stays = closed_stays; root = below_root }
