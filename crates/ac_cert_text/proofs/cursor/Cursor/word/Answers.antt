use Rattle.ac_cert_text.proofs.Reading.{word-ok, word-not}
use Rattle.ac_cert_text.proofs.cursor.Cursor.word.Goals as goal

pub returns-in-Some : goal.returns-in-Some
returns-in-Some c = word-ok c.args.bytes.now c.args.self.now.rest.now c.in-Some.rest.now c.in-Some.ensures.cases.0 c.in-Some.ensures.cases.1

pub returns-in-None : goal.returns-in-None
returns-in-None c = word-not c.args.bytes.now c.args.self.now.rest.now c.in-None.ensures.cases
