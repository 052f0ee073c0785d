use Rattle.std.proofs.Common.{◌≡◌, ◌/◌, ◌%◌, ◌-ℤ◌, pos, slice_index_or, SFits, w32, rules, arith, refl, sym, ◌∙◌}
use Rattle.std.proofs.lemmas.Int.{to_z-of_z, ints}
use Rattle.ac_convolution.specs.Negacyclic.{items}
use Rattle.ac_convolution.proofs.Alternating.{wave_low, wave_high}
use Rattle.ac_convolution.proofs.sparse.entry.Goals as goal

pub returns-then-n-eq0-clause-value : goal.returns-then-n-eq0-clause-value
returns-then-n-eq0-clause-value c =
    let n = c.args.n in
    let fits : SFits w32 (slice_index_or c.args.h.now (c.args.n % 256) (pos 0)) = search rules in
    simp to_z-of_z (sym (wave_low 256 (items c.args.h.now) n (n / 256) (n % 256) refl refl (omega arith)))

pub returns-else-n-eq0-clause-value : goal.returns-else-n-eq0-clause-value
returns-else-n-eq0-clause-value c =
    let n = c.args.n in
    let small = c.requires (c.args.n % 256) (omega arith) in
    let fits : SFits w32 (slice_index_or c.args.h.now (c.args.n % 256) (pos 0)) = search rules in
    let opposite : SFits w32 (pos 0 -ℤ slice_index_or c.args.h.now (c.args.n % 256) (pos 0)) = search (rules, ints) in
    let turned = wave_high 256 (items c.args.h.now) n (n / 256) (n % 256) refl refl (omega arith) in
    simp to_z-of_z (omega (arith, ints))
