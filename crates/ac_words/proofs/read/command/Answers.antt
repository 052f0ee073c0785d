use Rattle.std.proofs.Common.{map, string_bytes}
use Rattle.ac_words.specs.Asked.{texts_of}
use Rattle.ac_words.proofs.Said.{within_bounds}
use Rattle.ac_words.proofs.read.command.Goals as goal

pub returns-in-Ok-clause-lawful : goal.returns-in-Ok-clause-lawful
returns-in-Ok-clause-lawful c = within_bounds (map string_bytes c.args.words.now) c.in-Ok.asked.command (texts_of c.in-Ok.asked.names, c.in-Ok.ensures.value)
