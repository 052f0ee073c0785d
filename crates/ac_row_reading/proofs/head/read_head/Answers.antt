use Rattle.ac_codec.proofs.Sound.{first_found, first_only, part_refused, part_refuses}
use Rattle.ac_rows.specs.HeadRows.{whole_head}
use Rattle.ac_rows.proofs.HeadSound.{whole_head_sound}
use Rattle.ac_row_reading.proofs.head.read_head.Goals as goal

pub returns-clause-value : goal.returns-clause-value
returns-clause-value c =
    first_found whole_head whole_head_sound c.read_whole.result c.args.source.now c.read_whole.new.source c.read_whole.ensures

pub returns-clause-complete : goal.returns-clause-complete
returns-clause-complete c =
    first_only whole_head whole_head_sound c.read_whole.result c.args.source.now c.read_whole.new.source c.read_whole.ensures

pub returns-clause-cause : goal.returns-clause-cause
returns-clause-cause c =
    part_refused (λ x. x.0) whole_head whole_head_sound c.read_whole.result c.args.source.now c.read_whole.new.source c.read_whole.ensures

pub returns-clause-refused : goal.returns-clause-refused
returns-clause-refused c =
    part_refuses (λ x. x.0) whole_head whole_head_sound c.read_whole.result c.args.source.now c.read_whole.new.source c.read_whole.ensures
