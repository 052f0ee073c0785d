use Rattle.std.proofs.Common.{◌+◌, ◌*◌, pos, slice_index_or, SFits, w32}
use Rattle.std.proofs.lemmas.Int.{to_z-of_z}
use Rattle.ac_mant.specs.declared.quantiser.TheConstants.{MIDDLES}
use Rattle.ac_mant.proofs.Middles.{middle_listed, middle_fits}
use Rattle.ac_mant.proofs.quantiser.middle_entry.Goals as goal

pub returns : goal.returns
returns c =
    let is = middle_listed c.args.bap c.args.code c.requires.pointer c.requires.code c.requires.small in
    let fits : SFits w32 (slice_index_or MIDDLES (16 * c.args.bap + c.args.code) (pos 0)) = middle_fits c.args.bap c.args.code c.requires.pointer c.requires.code c.requires.small in
    simp to_z-of_z is
