use Rattle.std.proofs.Common.{◌∙◌, ap}
use Rattle.std.specs.Prelude.{◌&&◌, nat_lt, nat_le}
use Rattle.ac_rows.specs.Filled.{entry, listed}
use Rattle.ac_syntax.specs.Filling.{or_if}
use Rattle.ac_syntax.proofs.filling.structure.Goals as goal

pub returns : goal.returns
returns c =
    c.structure_of.ensures ∙ ap (λ n. listed 18 0 (λ j. or_if (nat_le 1 j && nat_lt j n) (entry c.args.own.now j)
    (entry c.args.kept.now j))) c.subband_count.ensures
