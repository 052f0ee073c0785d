use Rattle.ac_packing.proofs.Unique.{frame_size, no_sync, one_frame}
use Rattle.ac_packing.proofs.law.pack_law.Goals as goal

pub returns-clause-size : goal.returns-clause-size
returns-clause-size c = λ q frame p. frame_size q frame p

pub returns-clause-no_sync : goal.returns-clause-no_sync
returns-clause-no_sync c = λ q frame p. no_sync q frame p

pub returns-clause-one : goal.returns-clause-one
returns-clause-one c = λ q f g is bf bg p r. one_frame q f g is bf bg p r
