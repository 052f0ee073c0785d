use Rattle.std.proofs.Common.{refl, sym, ◌∙◌}
use Rattle.ac_reading.proofs.Blocks.{begun_head}
use Rattle.ac_reading.proofs.Whole.{head_lawful}
use Rattle.ac_reading.proofs.reading.read_fields.Goals as goal

pub read_blocks-requires-clause-head : goal.read_blocks-requires-clause-head
read_blocks-requires-clause-head c = let v = c.in_ok-head.ensures.value in head_lawful c.in_ok-head.head v.0 v.1

pub returns-clause-found : goal.returns-clause-found
returns-clause-found c =
    let v = c.in_ok-head.ensures.value in
    record {
      addbsi = v.0;
      blocks_from = c.read_head.new.source;
      rest = c.read_blocks.new.source;
      lawful = v.1;
      whole = sym c.new-source.ensures ∙ v.2;
      begun = begun_head c.in_ok-head.head 6 c.read_blocks.new.out _ c.read_head.new.source c.read_blocks.new.source refl refl refl refl c.in_ok-read_blocks.ensures.found;
    }
