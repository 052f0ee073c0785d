use Rattle.std.proofs.Common.{◌≡◌, ◌≢◌, ◌+◌, ◌<◌, ◌≤◌, ◌∙◌, ℕ, [], length, length-set, get_or-set_other, slice_index, slice_index_or, arith, ap}
use Rattle.ac_alloc.specs.Integration.{logadd}
use Rattle.ac_alloc.proofs.Lists.{written_next}
use Rattle.ac_masks.specs.Densities.{bin_density}
use Rattle.ac_masks.proofs.densities.add_seven.Goals as goal

pub loop-i-preserved : goal.loop-i-preserved
loop-i-preserved c =
    let at = c.loop-i.i in
    let old = c.args.sums.now in
    let sums = c.loop-i.sums in
    let x = c.added_at.result in
    let bin = λ (i : ℕ). bin_density (slice_index_or c.args.levels.now (c.args.at + i) []) c.args.k in
    let was = c.loop-i.invariant.rest at (omega arith) in
    let inside : at < length sums = omega (arith, c.loop-i.invariant.long) in
    record {
      long = length-set sums at x ∙ c.loop-i.invariant.long;
      values = written_next (λ i y. y ≡ logadd (slice_index old i) (bin i)) 0 sums at x inside c.loop-i.invariant.values (c.added_at.ensures.value ∙ ap (λ y. logadd y (bin at)) was);
      bounds = λ (m i : ℕ) p q r. written_next (λ k y. slice_index old k ≤ m → y ≤ m + 64) 0 sums at x inside (λ k h s. c.loop-i.invariant.bounds m k p h s) (λ s. c.added_at.ensures.bound m p (omega (arith, was, s))) i q r;
      rest = λ (i : ℕ) h. let ne : i ≢ at = omega arith in get_or-set_other sums at i x 0 ne ∙ c.loop-i.invariant.rest i (omega arith);
    }

pub returns-clause-bounds : goal.returns-clause-bounds
returns-clause-bounds c = λ (m i : ℕ) p q r. c.loop-i.invariant.bounds m i p (omega arith) r
