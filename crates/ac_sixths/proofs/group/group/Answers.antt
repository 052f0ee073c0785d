use Rattle.std.proofs.Common.{◌≡◌, ◌+◌, ◌*◌, ◌-◌, ◌/◌, ◌<◌, ℕ, slice_index, arith, ap, sym, ◌∙◌, refl}
use Rattle.ac_base.specs.Allocation.{bndtab_list}
use Rattle.ac_base.proofs.AllocationTables.{starts_small, starts_rise}
use Rattle.ac_alloc.proofs.Lists.{of_equal}
use Rattle.ac_sixths.specs.Runs.{column, piece_at, entry_at, total_from}
use Rattle.ac_sixths.proofs.Meanings.{sums_small}
use Rattle.ac_sixths.proofs.Grouped.{group_next, band_within, part_small}
use Rattle.ac_sixths.proofs.Totals.{total_none}
use Rattle.ac_sixths.proofs.group.group.Goals as goal

pub loop-b-init : goal.loop-b-init
loop-b-init g c = record {
  long = refl;
  bin = c.band_start-a.ensures.value;
  so_far = λ j h. let F = entry_at c.args.f.now c.args.levels.now (column c.args.bases.now c.args.row) (c.args.t0 + j) in let s = slice_index bndtab_list c.args.from in let z : c.band_start-a.result - s ≡ 0 = omega (arith, c.band_start-a.ensures.value) in let zero : g.row.M * 0 ≡ 0 = omega arith in ap (λ v. g.row.M * v) (of_equal 0 16 j) ∙ zero ∙ sym (ap (total_from F s) z ∙ total_none F s);
}

pub add_band-requires-clause-bins : goal.add_band-requires-clause-bins
add_band-requires-clause-bins g c =
    (band_within g.row.N c.args.from c.args.to c.loop-b.b c.loop-b.a (omega arith) (omega arith) c.requires.to c.requires.wide c.loop-b.invariant.bin).2

pub add_band-requires-clause-levels : goal.add_band-requires-clause-levels
add_band-requires-clause-levels g c = λ (k : ℕ) l m.
    let w = band_within g.row.N c.args.from c.args.to c.loop-b.b c.loop-b.a (omega arith) (omega arith) c.requires.to c.requires.wide c.loop-b.invariant.bin in
    let u : k < c.loop-b.a + g.row.N = m in
    c.requires.levels k (omega (arith, w.0)) (omega (arith, w.1, u))

pub add_band-requires-clause-room : goal.add_band-requires-clause-room
add_band-requires-clause-room g c = λ (j : ℕ) h.
    let w = band_within g.row.N c.args.from c.args.to c.loop-b.b c.loop-b.a (omega arith) (omega arith) c.requires.to c.requires.wide c.loop-b.invariant.bin in
    let s = slice_index bndtab_list c.args.from in
    let e = slice_index bndtab_list c.args.to in
    let end = starts_small c.args.to (omega arith) in
    let few = sums_small c.args.f.now c.args.levels.now (column c.args.bases.now c.args.row) (c.args.t0 + j) s e (c.loop-b.a - s) c.requires.small (omega arith) c.requires.levels c.requires.bases end (omega (arith, w.0, w.1)) in
    part_small g.row.M (slice_index c.loop-b.x j) 24288 c.requires.some (omega (arith, c.loop-b.invariant.so_far j h, few, w.2))

pub overflow_add-a : goal.overflow_add-a
overflow_add-a g c =
    let w = band_within g.row.N c.args.from c.args.to c.loop-b.b c.loop-b.a (omega arith) (omega arith) c.requires.to c.requires.wide c.loop-b.invariant.bin in
    omega (arith, w.2)

pub loop-b-preserved : goal.loop-b-preserved
loop-b-preserved g c =
    let w = band_within g.row.N c.args.from c.args.to c.loop-b.b c.loop-b.a (omega arith) (omega arith) c.requires.to c.requires.wide c.loop-b.invariant.bin in record {
      long = omega (arith, c.add_band.array_long);
      bin = w.3;
      so_far = λ j h. group_next c.args.f.now c.args.levels.now (column c.args.bases.now c.args.row) g.row.M g.row.N c.args.from c.args.to c.loop-b.b c.loop-b.a c.args.t0 j (slice_index c.loop-b.x j) (slice_index c.add_band.new.x j) c.requires.some c.requires.whole (omega arith) (omega arith) c.requires.to c.requires.wide c.requires.pieces c.loop-b.invariant.bin (c.loop-b.invariant.so_far j h) (c.add_band.ensures j h ∙ ap (λ v. slice_index c.loop-b.x j + total_from (piece_at c.args.f.now c.args.levels.now (v + c.args.t0 + j) c.loop-b.a g.row.M) 0 (g.row.N / g.row.M)) c.base_at.ensures);
    }

pub add_times-requires-clause-room : goal.add_times-requires-clause-room
add_times-requires-clause-room g c = λ (j : ℕ) h.
    let s = slice_index bndtab_list c.args.from in
    let e = slice_index bndtab_list c.args.to in
    let end = starts_small c.args.to (omega arith) in
    let b : c.loop-b.b ≡ c.args.to = omega arith in
    let at = ap (slice_index bndtab_list) b in
    let rise = starts_rise c.args.from c.args.to c.requires.order (omega arith) in
    let few = sums_small c.args.f.now c.args.levels.now (column c.args.bases.now c.args.row) (c.args.t0 + j) s e (c.loop-b.a - s) c.requires.small (omega arith) c.requires.levels c.requires.bases end (omega (arith, at, c.loop-b.invariant.bin)) in
    omega (arith, c.loop-b.invariant.so_far j h, few, at, c.loop-b.invariant.bin, c.requires.room j h)

pub returns : goal.returns
returns g c = λ (j : ℕ) h.
    let F = entry_at c.args.f.now c.args.levels.now (column c.args.bases.now c.args.row) (c.args.t0 + j) in
    let s = slice_index bndtab_list c.args.from in
    let b : c.loop-b.b ≡ c.args.to = omega arith in
    let e : c.loop-b.a - s ≡ slice_index bndtab_list c.args.to - s = ap (λ v. v - s) (c.loop-b.invariant.bin ∙ ap (slice_index bndtab_list) b) in
    c.add_times.ensures j h ∙ ap (λ v. slice_index c.args.six.now j + v) (c.loop-b.invariant.so_far j h ∙ ap (total_from F s) e)
