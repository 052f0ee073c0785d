use Rattle.ac_rows.proofs.SpelledSound.{never_short}
use Rattle.ac_row_reading.proofs.exponent.whole_spelled.Goals as goal

pub returns-in-Err : goal.returns-in-Err
returns-in-Err c = absurd (never_short c.args.count c.args.source.now _ c.take_spelled.new.source c.requires.enough c.in-Err.ensures)
