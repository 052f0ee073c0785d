use Rattle.std.proofs.Common.{◌≡◌, ℕ, ◌+◌, ◌<◌, ◌≤◌, List, length, drop, slice_index, refl, arith, ap, sym, ◌∙◌}
use Rattle.std.proofs.lemmas.List.{drop_more, drop_all}
use Rattle.ac_base.specs.Words.{zeros}
use Rattle.ac_expo.proofs.run.stop_of.Goals as goal

one_more : (at : ℕ) (codes : List ℕ) → at < length codes → slice_index codes at ≡ 0 → at + zeros (drop at codes) ≡ at + 1 + zeros (drop (at + 1) codes)
one_more at codes l none = rw (drop_more codes at 0 l, none) (omega arith)

none_left : (at : ℕ) (codes : List ℕ) → length codes ≤ at → zeros (drop at codes) ≡ 0
none_left at codes l = rw (drop_all at codes l) refl

pub loop-at-preserved : goal.loop-at-preserved
loop-at-preserved c =
    let at = c.loop-at.at in
    let codes = c.args.codes.now in
    let inside : at < length codes = omega (arith, c.loop-at-test.true, c.told-codes) in
    let none : slice_index codes at ≡ 0 = ap (slice_index codes) (sym c.from.ensures) ∙ c.if-codes-from-eq0.true in
    (omega (arith, c.loop-at.invariant.0), omega (arith, c.loop-at-test.true), sym (one_more at codes inside none) ∙ c.loop-at.invariant.2)

pub returns-after-loop-at-clause-value : goal.returns-after-loop-at-clause-value
returns-after-loop-at-clause-value c =
    omega (arith, c.loop-at.invariant.2, none_left c.loop-at.at c.args.codes.now (omega (arith, c.loop-at-test.false, c.told-codes)))
