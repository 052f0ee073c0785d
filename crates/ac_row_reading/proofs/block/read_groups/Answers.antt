use Rattle.std.proofs.Common.{sym, subst}
use Rattle.ac_rows.specs.declared.groups.Coupling.{Coupling}
use Rattle.ac_rows.specs.BlockRows.{HasSubbands}
use Rattle.ac_rows.proofs.BlockSound.{strategy_sound, codes_sound}
use Rattle.ac_rows.proofs.Bounds.{range_fits, codes_fit}
use Rattle.ac_row_reading.proofs.block.read_groups.Goals as goal

pub read_exponents-requires-clause-range : goal.read_exponents-requires-clause-range
read_exponents-requires-clause-range c =
    let known = c.args.known.now in
    let s = strategy_sound c.args.full c.args.stereo known.begun in
    let lawful = (s.found c.read_start.new.source c.in_ok-b.b c.read_strategy.new.source c.in_ok-b.ensures).0 in
    subst (λ (x : Coupling). HasSubbands x.range) (sym c.coupling_now-coupling.ensures)
    (range_fits c.args.full c.args.stereo known c.in_ok-b.b c.requires.range lawful)

pub read_exponents-requires-clause-codes : goal.read_exponents-requires-clause-codes
read_exponents-requires-clause-codes c =
    let known = c.args.known.now in
    let coupling = c.coupling_now-coupling.result in
    let s = codes_sound c.args.full c.args.stereo c.args.low known coupling in
    codes_fit c.args.full c.args.stereo c.args.low known coupling c.in_ok-d.d
    (s.found c.read_shared.new.source c.in_ok-d.d c.read_codes.new.source c.in_ok-d.ensures).0
