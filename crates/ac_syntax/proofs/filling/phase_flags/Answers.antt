use Rattle.std.proofs.Common.{◌∙◌, ap, Some, None}
use Rattle.std.specs.Prelude.{◌&&◌, nat_lt, if◌then◌else◌}
use Rattle.std.specs.Option.{option_or}
use Rattle.ac_rows.specs.Filled.{entry, holds, listed}
use Rattle.ac_syntax.proofs.filling.phase_flags.Goals as goal

pub returns : goal.returns
returns c =
    c.phase_flags_where.ensures ∙ ap (λ t. listed 18 0 (λ j. if t && nat_lt j c.args.c.now.bands then Some
    (c.args.c.now.phases && holds (option_or (entry c.args.own.now j) (entry c.args.kept.now j))) else None)) c.stereo.ensures
