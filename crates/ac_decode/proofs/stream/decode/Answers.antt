use Rattle.ac_decode.proofs.Ends.{end_answers, bad_answers, long_answers}
use Rattle.ac_decode.proofs.stream.decode.Goals as goal

pub returns-clause-complete : goal.returns-clause-complete
returns-clause-complete g c = λ bytes gs e is. end_answers bytes gs c.frames.result is (c.frames.ensures.sees bytes e)

pub returns-clause-refused : goal.returns-clause-refused
returns-clause-refused g c = λ bytes i fault e is. bad_answers bytes i fault c.frames.result is (c.frames.ensures.sees bytes e)

pub returns-clause-too_long : goal.returns-clause-too_long
returns-clause-too_long g c = λ bytes e is. long_answers bytes c.frames.result is (c.frames.ensures.sees bytes e)
