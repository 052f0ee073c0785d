use Rattle.std.proofs.Common.{refl, ap, Err, arith}
use Rattle.ac_record.specs.declared.codes.FrameFault.{FrameFault}
use Rattle.ac_record.proofs.Whole.{frames_have_no_fault, one_fault}
use Rattle.ac_reading.proofs.reading.read.Goals as goal

pub returns-in-Ok-clause-complete : goal.returns-in-Ok-clause-complete
returns-in-Ok-clause-complete c = λ f reading. refl

pub returns-in-Ok-clause-refused : goal.returns-in-Ok-clause-refused
returns-in-Ok-clause-refused c = λ fault is. absurd (frames_have_no_fault c.args.bytes.now c.read_frame.new.out fault (λ k lt. omega (arith, c.type_inv.bytes k)) c.in-Ok.ensures.value is)

pub returns-in-Err-clause-complete : goal.returns-in-Err-clause-complete
returns-in-Err-clause-complete c = λ f reading. absurd (frames_have_no_fault c.args.bytes.now f c.in-Err.fault (λ k lt. omega (arith, c.type_inv.bytes k)) reading c.in-Err.ensures.cause)

pub returns-in-Err-clause-refused : goal.returns-in-Err-clause-refused
returns-in-Err-clause-refused c = λ fault is. ap (λ (e : FrameFault). Err e) (one_fault c.args.bytes.now c.in-Err.fault fault c.in-Err.ensures.cause is)
