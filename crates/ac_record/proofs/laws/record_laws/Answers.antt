use Rattle.ac_record.proofs.Whole.{one_record, frames_have_no_fault, one_fault}
use Rattle.ac_record.proofs.laws.record_laws.Goals as goal

pub returns-clause-one : goal.returns-clause-one
returns-clause-one c = one_record

pub returns-clause-apart : goal.returns-clause-apart
returns-clause-apart c = frames_have_no_fault

pub returns-clause-fault : goal.returns-clause-fault
returns-clause-fault c = one_fault
