use Rattle.std.proofs.Common.{◌∙◌, [], slice_index_or}
use Rattle.ac_dec.proofs.Streams.{front_sound, next_sound, next_behind, silent_behind}
use Rattle.ac_dec.proofs.law.sound_law.Goals as goal

pub returns-clause-first : goal.returns-clause-first
returns-clause-first c = silent_behind

pub returns-clause-next : goal.returns-clause-next
returns-clause-next c = λ gs bytes old new g heard out channel b t is behind there block below.
    is.samples channel b t there block below ∙ next_sound gs g channel (slice_index_or old.delays channel []) behind b t block below

pub returns-clause-behind : goal.returns-clause-behind
returns-clause-behind c = λ gs bytes old new g heard out channel is behind there.
    next_behind gs g channel (slice_index_or old.delays channel []) (slice_index_or new.delays channel []) behind (λ t below. is.delays channel t there below)

pub returns-clause-front : goal.returns-clause-front
returns-clause-front c = front_sound
