use Rattle.std.proofs.Common.{◌≡◌, ◌+◌, ◌*◌, ◌-◌, ◌/◌, ◌<◌, ℕ, slice_index, arith, ap, sym, ◌∙◌, refl}
use Rattle.ac_base.specs.Allocation.{bndtab_list}
use Rattle.ac_base.proofs.AllocationTables.{starts_small, starts_rise}
use Rattle.ac_alloc.proofs.Lists.{of_equal}
use Rattle.ac_sixths.specs.Runs.{column, piece_at, total_from}
use Rattle.ac_sixths.specs.Pairs.{pair_at}
use Rattle.ac_sixths.proofs.Grouped.{band_within}
use Rattle.ac_sixths.proofs.Paired.{pair_next, pair_total_small}
use Rattle.ac_sixths.proofs.Totals.{total_none}
use Rattle.ac_sixths.proofs.pairs.pair_group.Goals as goal

pub loop-b-init : goal.loop-b-init
loop-b-init g c =
    let s = slice_index bndtab_list c.args.from in
    let z : (c.band_start-a.result - s) / 2 ≡ 0 = omega (arith, c.band_start-a.ensures.value) in record {
      long = refl;
      bin = c.band_start-a.ensures.value;
      even = omega (arith, c.band_start-a.ensures.value);
      so_far = λ j h. let Q = λ (i : ℕ). pair_at c.args.f.now c.args.pairs.now (column c.args.bases.now c.args.row) (c.args.t0 + j) (s + i * 2) in of_equal 0 16 j ∙ sym (ap (total_from Q 0) z ∙ total_none Q 0);
    }

pub add_pairs-requires-clause-bins : goal.add_pairs-requires-clause-bins
add_pairs-requires-clause-bins g c =
    (band_within g.row.N c.args.from c.args.to c.loop-b.b c.loop-b.a (omega arith) (omega arith) c.requires.to c.requires.wide c.loop-b.invariant.bin).2

pub add_pairs-requires-clause-pairs : goal.add_pairs-requires-clause-pairs
add_pairs-requires-clause-pairs g c = λ (k : ℕ) l m.
    let w = band_within g.row.N c.args.from c.args.to c.loop-b.b c.loop-b.a (omega arith) (omega arith) c.requires.to c.requires.wide c.loop-b.invariant.bin in
    let u : k + 1 < c.loop-b.a + g.row.N = m in
    c.requires.pairs k (omega (arith, w.0)) (omega (arith, w.1, u))

pub add_pairs-requires-clause-room : goal.add_pairs-requires-clause-room
add_pairs-requires-clause-room g c = λ (j : ℕ) h.
    let w = band_within g.row.N c.args.from c.args.to c.loop-b.b c.loop-b.a (omega arith) (omega arith) c.requires.to c.requires.wide c.loop-b.invariant.bin in
    let s = slice_index bndtab_list c.args.from in
    let e = slice_index bndtab_list c.args.to in
    let end = starts_small c.args.to (omega arith) in
    let few = pair_total_small c.args.f.now c.args.pairs.now (column c.args.bases.now c.args.row) (c.args.t0 + j) s e ((c.loop-b.a - s) / 2) c.requires.small (omega arith) c.requires.pairs c.requires.bases end (omega (arith, w.0, w.1)) in
    omega (arith, c.loop-b.invariant.so_far j h, few, w.2)

pub overflow_add-a : goal.overflow_add-a
overflow_add-a g c =
    let w = band_within g.row.N c.args.from c.args.to c.loop-b.b c.loop-b.a (omega arith) (omega arith) c.requires.to c.requires.wide c.loop-b.invariant.bin in
    omega (arith, w.2)

pub loop-b-preserved : goal.loop-b-preserved
loop-b-preserved g c =
    let w = band_within g.row.N c.args.from c.args.to c.loop-b.b c.loop-b.a (omega arith) (omega arith) c.requires.to c.requires.wide c.loop-b.invariant.bin in
    let s = slice_index bndtab_list c.args.from in
    let m : (c.loop-b.a - s) / 2 + g.row.N / 2 ≡ (c.loop-b.a + g.row.N - s) / 2 = omega (arith, c.loop-b.invariant.even, c.requires.whole, w.0) in record {
      long = omega (arith, c.add_pairs.array_long);
      bin = w.3;
      even = omega (arith, c.loop-b.invariant.even, c.requires.whole, w.0);
      so_far = λ j h. let Q = λ (i : ℕ). pair_at c.args.f.now c.args.pairs.now (column c.args.bases.now c.args.row) (c.args.t0 + j) (s + i * 2) in pair_next c.args.f.now c.args.pairs.now (column c.args.bases.now c.args.row) g.row.N c.args.from c.args.to c.loop-b.b c.loop-b.a c.args.t0 j ((c.loop-b.a - s) / 2) (slice_index c.loop-b.x j) (slice_index c.add_pairs.new.x j) c.requires.whole (omega arith) (omega arith) c.requires.to c.requires.wide c.loop-b.invariant.bin c.loop-b.invariant.even (c.loop-b.invariant.so_far j h) (c.add_pairs.ensures j h ∙ ap (λ v. slice_index c.loop-b.x j + total_from (piece_at c.args.f.now c.args.pairs.now (v + c.args.t0 + j) c.loop-b.a 2) 0 (g.row.N / 2)) c.base_at.ensures) ∙ ap (total_from Q 0) m;
    }

pub add_times-requires-clause-room : goal.add_times-requires-clause-room
add_times-requires-clause-room g c = λ (j : ℕ) h.
    let s = slice_index bndtab_list c.args.from in
    let e = slice_index bndtab_list c.args.to in
    let end = starts_small c.args.to (omega arith) in
    let b : c.loop-b.b ≡ c.args.to = omega arith in
    let at = ap (slice_index bndtab_list) b in
    let rise = starts_rise c.args.from c.args.to c.requires.order (omega arith) in
    let few = pair_total_small c.args.f.now c.args.pairs.now (column c.args.bases.now c.args.row) (c.args.t0 + j) s e ((c.loop-b.a - s) / 2) c.requires.small (omega arith) c.requires.pairs c.requires.bases end (omega (arith, at, c.loop-b.invariant.bin, rise)) in
    omega (arith, c.loop-b.invariant.so_far j h, few, at, c.loop-b.invariant.bin, c.requires.room j h)

pub returns : goal.returns
returns g c = λ (j : ℕ) h.
    let s = slice_index bndtab_list c.args.from in
    let Q = λ (i : ℕ). pair_at c.args.f.now c.args.pairs.now (column c.args.bases.now c.args.row) (c.args.t0 + j) (s + i * 2) in
    let b : c.loop-b.b ≡ c.args.to = omega arith in
    let e : (c.loop-b.a - s) / 2 ≡ (slice_index bndtab_list c.args.to - s) / 2 = ap (λ v. (v - s) / 2) (c.loop-b.invariant.bin ∙ ap (slice_index bndtab_list) b) in
    let all = ap (total_from Q 0) e in
    omega (arith, c.add_times.ensures j h, c.loop-b.invariant.so_far j h, all)
