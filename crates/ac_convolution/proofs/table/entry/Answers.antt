use Rattle.std.proofs.Common.{◌≡◌, ◌/◌, ◌%◌, ◌-ℤ◌, pos, slice_index_or, SFits, w32, w64, rules, arith, refl, sym, ◌∙◌}
use Rattle.std.proofs.lemmas.Int.{to_z-of_z, ints}
use Rattle.ac_convolution.specs.Negacyclic.{items}
use Rattle.ac_convolution.proofs.Alternating.{wave_low, wave_high}
use Rattle.ac_convolution.proofs.table.entry.Goals as goal

pub returns-then-n-eq0-clause-value : goal.returns-then-n-eq0-clause-value
returns-then-n-eq0-clause-value c =
    let n = c.args.n in
    let half = c.args.half.now in
    let fits : SFits w32 (slice_index_or c.args.half.now (c.args.n % 256) (pos 0)) = search rules in
    let wide : SFits w64 c.from-z.result = search rules in
    let is : c.from-z.result ≡ items c.args.half.now (c.args.n % 256) = simp to_z-of_z at c.from-z.ensures in
    simp to_z-of_z (is ∙ sym (wave_low 256 (items half) n (n / 256) (n % 256) refl refl (omega arith)))

pub returns-else-n-eq0-clause-value : goal.returns-else-n-eq0-clause-value
returns-else-n-eq0-clause-value c =
    let n = c.args.n in
    let half = c.args.half.now in
    let small = c.requires (c.args.n % 256) (omega arith) in
    let fits : SFits w32 (slice_index_or c.args.half.now (c.args.n % 256) (pos 0)) = search rules in
    let wide : SFits w64 c.from-z.result = search rules in
    let is : c.from-z.result ≡ items c.args.half.now (c.args.n % 256) = simp to_z-of_z at c.from-z.ensures in
    let opposite : SFits w64 (pos 0 -ℤ c.from-z.result) = search rules in
    let turned = wave_high 256 (items half) n (n / 256) (n % 256) refl refl (omega arith) in
    simp to_z-of_z (omega (arith, ints))
