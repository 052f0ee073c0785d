use Rattle.std.proofs.Common.{◌*◌}
use Rattle.ac_wav.proofs.Rows.{zero_rows}
use Rattle.ac_wav.proofs.Rooms.{align_least}
use Rattle.ac_wav.proofs.Taken.{frames_taken}
use Rattle.ac_wav.proofs.Exact.{read_stops_exactly}
use Rattle.ac_wav.proofs.body.WavBody.samples.Goals as goal

pub returns-then-self-clause-bound : goal.returns-then-self-clause-bound
returns-then-self-clause-bound g c = zero_rows c.clear.new.out c.clear.ensures

pub returns-in-Ok-clause-told : goal.returns-in-Ok-clause-told
returns-in-Ok-clause-told g c = λ bytes start s. c.in-Ok.ensures.told bytes start s.at s.behind.taken_is

pub returns-in-Ok-clause-complete : goal.returns-in-Ok-clause-complete
returns-in-Ok-clause-complete g c = λ bytes start s _.
    read_stops_exactly bytes c.args.self.now.head c.args.self.now.taken start _ c.in-Ok.piece.samples c.args.self.now.limit _ _
    (c.in-Ok.ensures.told bytes start s.at s.behind.taken_is) c.args.self.now.room c.in-Ok.ensures.within

pub returns-in-Err-clause-frames : goal.returns-in-Err-clause-frames
returns-in-Err-clause-frames g c = λ bytes n s.
    let head = c.args.self.now.head in
    frames_taken bytes head c.args.self.now.taken c.args.self.now.limit n c.in-Err.fault _ (align_least head c.args.self.now.profile) s.behind.taken_is c.args.self.now.room s.at.within
    (c.in-Err.ensures.cause bytes s.at) (c.in-Err.ensures.told bytes (1536 * n) s.at s.behind.taken_is)
