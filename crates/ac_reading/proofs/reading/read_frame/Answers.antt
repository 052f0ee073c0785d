use Rattle.std.proofs.Common.{arith}
use Rattle.ac_reading.proofs.Whole.{frame_read, frame_refused}
use Rattle.ac_reading.proofs.reading.read_frame.Goals as goal

pub returns-in-Ok-clause-value : goal.returns-in-Ok-clause-value
returns-in-Ok-clause-value c = frame_read c.args.bytes.now c.in_ok-size.size c.read_fields.new.out c.in_ok-size.ensures.value (λ k lt. omega (arith, c.type_inv.bytes k)) c.in-Ok.ensures.found

pub returns-in-Err-clause-cause : goal.returns-in-Err-clause-cause
returns-in-Err-clause-cause c = frame_refused c.args.bytes.now c.in_ok-size.size c.in-Err.e c.in_ok-size.ensures.value c.in-Err.ensures.cause
