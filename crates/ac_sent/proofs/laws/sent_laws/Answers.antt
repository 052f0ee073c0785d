use Rattle.ac_sent.proofs.laws.sent_laws.Goals as goal
use Rattle.ac_sent.proofs.Padding.{keeps_rooms}
use Rattle.ac_sent.proofs.Back.{gives_back}
use Rattle.ac_sent.proofs.OneFrame.{one_frame}
use Rattle.ac_sent.proofs.SentRecord.{is_record}
use Rattle.ac_sent.proofs.Sizes.{has_size}

pub returns-clause-record : goal.returns-clause-record
returns-clause-record c = is_record

pub returns-clause-rooms : goal.returns-clause-rooms
returns-clause-rooms c = keeps_rooms

pub returns-clause-size : goal.returns-clause-size
returns-clause-size c = has_size

pub returns-clause-back : goal.returns-clause-back
returns-clause-back c = gives_back

pub returns-clause-one : goal.returns-clause-one
returns-clause-one c = one_frame
