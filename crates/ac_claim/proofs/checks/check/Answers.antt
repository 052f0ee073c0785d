use Rattle.ac_claim.specs.Tests.{first_no}
use Rattle.ac_claim.proofs.Answering.{ok_none}
use Rattle.ac_claim.proofs.Claiming.{passes-claim}
use Rattle.ac_claim.proofs.checks.check.Goals as goal

pub returns-clause-sound : goal.returns-clause-sound
returns-clause-sound c =
    let cert = c.args.cert.now in
    passes-claim cert c.word_codes.ensures.words (ok_none (first_no cert) c.in_ok-first_test.field-0 c.in_ok-first_test.ensures)
