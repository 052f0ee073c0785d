use Rattle.ac_riff.proofs.Endings.{never_both, one_head, one_refusal}
use Rattle.ac_riff.proofs.Each.{each}
use Rattle.ac_riff.proofs.law.head_law.Goals as goal

pub returns : goal.returns
returns c = record { never_both = never_both; one_head = one_head; one_refusal = one_refusal; each = each }
