use Rattle.std.proofs.Common.{◌≡◌, ◌+◌, ◌<◌, ◌≤◌, pos, slice_index_or, ap, ap₂, ◌∙◌, arith, inl, inr, refl}
use Rattle.std.proofs.lemmas.Bool.{cases_lt}
use Rattle.ac_base.specs.Window.{window_of}
use Rattle.ac_mdct.specs.Inverse.{part_of, sample_of}
use Rattle.ac_mdct.proofs.Chains.{unfolded_is}
use Rattle.ac_mdct.proofs.fast.inverse.Goals as goal

pub returns-clause-sound : goal.returns-clause-sound
returns-clause-sound c = λ n below.
    let coefs = c.args.coefs.now in
    let sums = c.inverse_sums.new.out in
    let whole = ap (λ t. part_of t (window_of n)) (unfolded_is coefs sums n (omega arith) c.inverse_sums.ensures.value) in
    elim (cases_lt n 128) [
      | inl first ↦
          c.upper.ensures.rest n (inl first) ∙ c.lower.ensures.sound n (omega arith) first ∙ ap (λ p. sample_of p (slice_index_or c.args.delay.now n (pos 0))) whole
      | inr later ↦
          c.upper.ensures.sound n later below ∙ ap₂ sample_of whole (c.lower.ensures.rest_delay n (inr later))
    ]

pub returns-clause-delay : goal.returns-clause-delay
returns-clause-delay c = λ n below.
    let coefs = c.args.coefs.now in
    let sums = c.inverse_sums.new.out in
    let whole = ap (λ t. part_of t (window_of (n + 256))) (unfolded_is coefs sums (n + 256) (omega arith) c.inverse_sums.ensures.value) in
    elim (cases_lt n 128) [
      | inl first ↦ c.upper.ensures.rest_delay n (inl first) ∙ c.lower.ensures.delay n (omega arith) first ∙ whole
      | inr later ↦ c.upper.ensures.delay n later below ∙ whole
    ]
