use Rattle.std.proofs.Common.{ap, ◌∙◌}
use Rattle.ac_cert_text.specs.Codec.{flag}
use Rattle.ac_cert_print.proofs.Spelling.{same, flag-true, flag-false}
use Rattle.ac_cert_print.proofs.head.flag.Goals as goal

pub returns-then-set : goal.returns-then-set
returns-then-set g c = same (ap (flag 32).spell c.if-set.true ∙ flag-true) c.word.ensures

pub returns-else-set : goal.returns-else-set
returns-else-set g c = same (ap (flag 32).spell c.if-set.false ∙ flag-false) c.word-else-set.ensures
