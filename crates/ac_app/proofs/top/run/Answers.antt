use Rattle.ac_app.proofs.Ends.{run_cause, is_done, refused_is, too_low_is, too_long_is, complete_is, still_answers, still_outside}
use Rattle.ac_app.proofs.top.run.Goals as goal

pub returns-clause-told : goal.returns-clause-told
returns-clause-told g c = λ bytes told. record {
  status = c.job-status.result;
  whole = c.tell-whole.result;
  answer = c.answer.ensures;
  between = _;
  job = c.job-status.ensures.told bytes told;
  line = c.tell-whole.ensures.line;
}

pub returns-clause-cause : goal.returns-clause-cause
returns-clause-cause g c = λ bytes told.
    run_cause _ c.job-status.result c.answer.result c.tell-whole.result bytes c.answer.ensures (c.job-status.ensures.cause bytes told)

pub returns-clause-ok : goal.returns-clause-ok
returns-clause-ok g c = λ bytes told. is_done _ c.answer.result bytes _ _ (returns-clause-told g c bytes told)

pub returns-clause-refused : goal.returns-clause-refused
returns-clause-refused g c = λ bytes o kind place told. refused_is _ o c.answer.result bytes kind place (returns-clause-cause g c bytes told)

pub returns-clause-too_low : goal.returns-clause-too_low
returns-clause-too_low g c = λ bytes o part needed room told. too_low_is _ o c.answer.result bytes part needed room (returns-clause-cause g c bytes told)

pub returns-clause-too_long : goal.returns-clause-too_long
returns-clause-too_long g c = λ bytes o told. too_long_is _ o c.answer.result bytes (returns-clause-cause g c bytes told)

pub returns-clause-complete : goal.returns-clause-complete
returns-clause-complete g c = λ bytes o head told. complete_is _ o c.answer.result bytes head (returns-clause-cause g c bytes told)

pub returns-clause-decoded : goal.returns-clause-decoded
returns-clause-decoded g c = λ bytes frames told asks is.
    (still_answers bytes c.job-status.result c.answer.result c.tell-whole.result c.answer.ensures (c.job-status.ensures.answers bytes told asks)).decoded frames is

pub returns-clause-bad_stream : goal.returns-clause-bad_stream
returns-clause-bad_stream g c = λ bytes frame fault told asks is.
    (still_answers bytes c.job-status.result c.answer.result c.tell-whole.result c.answer.ensures (c.job-status.ensures.answers bytes told asks)).bad frame fault is

pub returns-clause-long_stream : goal.returns-clause-long_stream
returns-clause-long_stream g c = λ bytes told asks is.
    (still_answers bytes c.job-status.result c.answer.result c.tell-whole.result c.answer.ensures (c.job-status.ensures.answers bytes told asks)).long is

pub returns-clause-outside : goal.returns-clause-outside
returns-clause-outside g c = still_outside _ c.job-status.result c.answer.result c.tell-whole.result c.answer.ensures c.job-status.ensures.outside
