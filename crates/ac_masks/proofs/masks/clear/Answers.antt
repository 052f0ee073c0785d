use Rattle.std.proofs.Common.{◌≡◌, ◌∙◌, ℕ, [], length, length-set, slice_index, arith, inl, inr}
use Rattle.std.proofs.lemmas.Bool.{cases_lt}
use Rattle.ac_alloc.proofs.Lists.{written_next}
use Rattle.ac_masks.proofs.Readying.{past_none}
use Rattle.ac_masks.proofs.masks.clear.Goals as goal

pub loop-b-preserved : goal.loop-b-preserved
loop-b-preserved c = record {
  long = length-set c.loop-b.out c.loop-b.b c.zeros.result ∙ c.loop-b.invariant.long;
  none = λ (i b : ℕ) m. written_next (λ j row. slice_index row i ≡ 0) [] c.loop-b.out c.loop-b.b c.zeros.result (omega (arith, c.loop-b.invariant.long)) (λ j h. c.loop-b.invariant.none i j h) (c.zeros.ensures i) b m;
}

pub returns : goal.returns
returns c = λ (l b : ℕ).
    elim (cases_lt b 50) [
      | inl m ↦ omega (arith, c.loop-b.invariant.none l b (omega arith))
      | inr m ↦ omega (arith, past_none c.loop-b.out l b c.loop-b.invariant.long m)
    ]
