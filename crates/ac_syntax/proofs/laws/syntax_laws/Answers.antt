use Rattle.ac_codec.proofs.Faithful.{faithful}
use Rattle.ac_rows.specs.HeadRows.{whole_head}
use Rattle.ac_rows.specs.BlockRows.{whole_block}
use Rattle.ac_rows.proofs.HeadSound.{whole_head_sound}
use Rattle.ac_rows.proofs.BlockSound.{whole_block_sound}
use Rattle.ac_rows.proofs.FilledSpans.{lawful_more, filled_has_spans}
use Rattle.ac_syntax.proofs.laws.syntax_laws.Goals as goal

pub returns-clause-head : goal.returns-clause-head
returns-clause-head c = faithful whole_head whole_head_sound

pub returns-clause-block : goal.returns-clause-block
returns-clause-block c = λ h earlier. faithful (whole_block h earlier) (whole_block_sound h earlier)

pub returns-clause-front : goal.returns-clause-front
returns-clause-front c = lawful_more

pub returns-clause-spans : goal.returns-clause-spans
returns-clause-spans c = filled_has_spans
