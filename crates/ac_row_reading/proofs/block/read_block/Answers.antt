use Rattle.ac_codec.proofs.Sound.{first_found, first_only, part_refused, part_refuses}
use Rattle.ac_rows.specs.BlockRows.{whole_block}
use Rattle.ac_rows.proofs.BlockSound.{whole_block_sound}
use Rattle.ac_rows.proofs.HeadSound.{head_channels}
use Rattle.ac_row_reading.proofs.block.read_block.Goals as goal

pub read_whole-requires-clause-channels : goal.read_whole-requires-clause-channels
read_whole-requires-clause-channels c = head_channels c.args.head.now c.requires.head

pub returns-clause-value : goal.returns-clause-value
returns-clause-value c =
    first_found (whole_block c.args.head.now c.args.earlier.now) (whole_block_sound c.args.head.now c.args.earlier.now) c.read_whole.result
    c.args.source.now c.read_whole.new.source c.read_whole.ensures

pub returns-clause-complete : goal.returns-clause-complete
returns-clause-complete c =
    first_only (whole_block c.args.head.now c.args.earlier.now) (whole_block_sound c.args.head.now c.args.earlier.now) c.read_whole.result
    c.args.source.now c.read_whole.new.source c.read_whole.ensures

pub returns-clause-cause : goal.returns-clause-cause
returns-clause-cause c =
    part_refused (λ x. x.0) (whole_block c.args.head.now c.args.earlier.now) (whole_block_sound c.args.head.now c.args.earlier.now)
    c.read_whole.result c.args.source.now c.read_whole.new.source c.read_whole.ensures

pub returns-clause-refused : goal.returns-clause-refused
returns-clause-refused c =
    part_refuses (λ x. x.0) (whole_block c.args.head.now c.args.earlier.now) (whole_block_sound c.args.head.now c.args.earlier.now)
    c.read_whole.result c.args.source.now c.read_whole.new.source c.read_whole.ensures
