use Rattle.std.proofs.Common.{ap₂, ◌∙◌}
use Rattle.std.specs.Prelude.{replicate}
use Rattle.ac_rows.specs.Blocks.{Block}
use Rattle.ac_rows.specs.declared.head.Head.{Head}
use Rattle.ac_record.specs.Frames.{FrameCodes}
use Rattle.ac_record.proofs.empty.FrameCodes.empty.Goals as goal

made_of : Head → Block → FrameCodes
made_of h b = record {
  head = h;
  block = replicate 6 b;
  exps = replicate 7 (replicate 6 (replicate 256 0));
  baps = replicate 7 (replicate 6 (replicate 256 0));
  codes = replicate 7 (replicate 6 (replicate 256 0));
}

pub returns : goal.returns
unfolding made_of
returns c = c.made.ensures ∙ ap₂ made_of c.no_head.ensures c.no_field-block.ensures
