use Rattle.std.proofs.Common.{◌≡◌, ◌+◌, ◌*◌, ◌-◌, ℕ, slice_index, arith, ap, ap₂, sym, ◌∙◌, refl}
use Rattle.ac_alloc.proofs.Lists.{of_equal}
use Rattle.ac_sixths.specs.Runs.{column, entry_at, total_from}
use Rattle.ac_sixths.proofs.Meanings.{entry_read, sums_small}
use Rattle.ac_sixths.proofs.Totals.{total_none, total_next}
use Rattle.ac_sixths.proofs.window.sums.Goals as goal

pub loop-k-init : goal.loop-k-init
loop-k-init c = record {
  long = refl;
  so_far = λ j h. let F = entry_at c.args.f.now c.args.levels.now (column c.args.bases.now c.args.row) (c.args.t0 + j) in let z : c.args.start - c.args.start ≡ 0 = omega arith in of_equal 0 16 j ∙ sym (ap (total_from F c.args.start) z ∙ total_none F c.args.start);
}

pub add_all-requires-clause-room : goal.add_all-requires-clause-room
add_all-requires-clause-room c = λ (j : ℕ) h.
    let k = c.loop-k.k in
    let levels = c.args.levels.now in
    let bases = (column c.args.bases.now c.args.row) in
    let l = c.requires.levels k (omega arith) (omega arith) in
    let b = c.requires.bases c.band_of.result (omega (arith, c.band_of.ensures.bound)) in
    let here = c.requires.small (c.base_at.result + 4 * slice_index levels k + c.args.t0 + j) (omega (arith, l, b, h, c.base_at.ensures)) in
    let before = sums_small c.args.f.now levels bases (c.args.t0 + j) c.args.start c.args.end (k - c.args.start) c.requires.small (omega (arith, h)) c.requires.levels c.requires.bases (omega arith) (omega arith) in
    omega (arith, c.loop-k.invariant.so_far j h, before, here)

pub loop-k-preserved : goal.loop-k-preserved
loop-k-preserved c = record {
  long = omega (arith, c.add_all.array_long);
  so_far = λ j h. let F = entry_at c.args.f.now c.args.levels.now (column c.args.bases.now c.args.row) (c.args.t0 + j) in let read = ap (λ v. slice_index c.args.f.now (v + 4 * slice_index c.args.levels.now c.loop-k.k + c.args.t0 + j)) c.base_at.ensures in let here = read ∙ entry_read c.args.f.now c.args.levels.now (column c.args.bases.now c.args.row) c.args.t0 j c.loop-k.k c.band_of.result c.band_of.ensures.value in c.add_all.ensures j h ∙ ap₂ (λ x y. x + y) (c.loop-k.invariant.so_far j h) here ∙ sym (total_next F c.args.start c.loop-k.k (omega arith));
}
