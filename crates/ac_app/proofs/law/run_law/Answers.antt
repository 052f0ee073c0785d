use Rattle.ac_app.proofs.Done.{same_left, done_size, same_size}
use Rattle.ac_app.proofs.law.run_law.Goals as goal

pub returns : goal.returns
returns c = record { left = same_left; size = done_size c.stream_law.ensures.size; same_size = same_size c.stream_law.ensures.size }
