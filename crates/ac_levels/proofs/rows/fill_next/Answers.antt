use Rattle.std.proofs.Common.{arith, rules}
use Rattle.ac_levels.proofs.Filling.{kinds_more}
use Rattle.ac_levels.proofs.rows.fill_next.Goals as goal

pub returns : goal.returns
returns c = λ raw steps below.
    kinds_more c.args.span.now raw c.fill_blocks.new.blocks c.args.kind _ c.args.out.now c.fill_kind.new.out c.requires.span c.requires.kind.0 (omega arith) (search rules) (c.fill_blocks.ensures raw steps) c.fill_kind.ensures.rows c.fill_kind.ensures.others below
