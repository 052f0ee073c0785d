use Rattle.ac_mant.proofs.Reading.{none_stands}
use Rattle.ac_mant.proofs.unpacking.group_number.Goals as goal

pub returns-in-One : goal.returns-in-One
returns-in-One c = rw c.in-One.is (none_stands c.args.place c.args.window.now)

pub returns-in-Two : goal.returns-in-Two
returns-in-Two c = rw c.in-Two.is (none_stands c.args.place c.args.window.now)
