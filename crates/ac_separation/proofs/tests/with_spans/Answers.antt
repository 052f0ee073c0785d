use Rattle.ac_separation.proofs.Fixtures.{stereo, their_spans, they_have_spans}
use Rattle.ac_separation.proofs.tests.with_spans.Goals as goal

pub returns : goal.returns
returns c =
    let block = c.two_coupled-block.result in
    let is = c.two_coupled-block.ensures in
    (stereo, their_spans block is.used is.coupled is.begin is.end, they_have_spans block is.used is.coupled is.begin is.end)
