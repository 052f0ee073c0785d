use Rattle.std.proofs.Common.{◌≡◌, ℕ, ◌+◌, ◌*◌, ◌/◌, ◌%◌, ◌<◌, ◌≤◌, true, [], slice_index, slice_index_or, inl, inr, subst, arith, rules}
use Rattle.std.proofs.lemmas.Bool.{cases_eq}
use Rattle.ac_base.proofs.SpanBounds.{span_end}
use Rattle.ac_expo.specs.Raw.{channel_span}
use Rattle.ac_cost.proofs.Assigning.{coded-few}
use Rattle.ac_cost.proofs.Exponents.{span_of_shape}
use Rattle.ac_trees.proofs.tests.is_in_range.Goals as goal

pub loop-place-init : goal.loop-place-init
loop-place-init c = λ d b k low l m. absurd (omega arith)

pub loop-place-preserved : goal.loop-place-preserved
loop-place-preserved c = λ d b k low l m.
    let place = c.loop-place.place in
    let raw = c.args.raw.now.e in
    elim (cases_eq (6 * d + b) place) [
      | inl e ↦
          let is : c.is_low.result ≡ true = search rules in
          let here = c.is_low.ensures is k m in
          let first : place / 6 ≡ d = omega (arith, e, low) in
          let second : place % 6 ≡ b = omega (arith, e, low) in
          subst (λ x. slice_index (slice_index_or (slice_index_or raw d []) x []) k ≤ 24) second (subst (λ x. slice_index (slice_index_or (slice_index_or raw x []) (place % 6) []) k ≤ 24) first here)
      | inr other ↦ c.loop-place.invariant d b k low (omega (arith, l, other)) m
    ]

pub returns : goal.returns
returns c = λ e d b k l low is.
    c.loop-place.invariant d b k low (omega (arith, l, low, coded-few c.args.shape.now, c.loop-place-test.false)) (omega (arith, is.1, span_end (channel_span c.args.shape.now d) (span_of_shape c.args.shape.now d)))
