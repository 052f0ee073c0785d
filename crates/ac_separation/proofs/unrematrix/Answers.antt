use Rattle.std.proofs.Common.{◌≡◌, ◌+◌, min, ℕ, arith, subst, sym, ap, ◌∙◌}
use Rattle.ac_base.specs.declared.coefficients.Coefs.{Coefs}
use Rattle.ac_energy.specs.Coefficients.{entry}
use Rattle.ac_rematrix.specs.Rematrix.{band_start}
use Rattle.ac_rows.specs.Groups.{strategy_of}
use Rattle.ac_rows.specs.Filled.{range_of}
use Rattle.ac_separation.specs.Separation.{cut_at}
use Rattle.ac_separation.specs.Written.{AreSums}
use Rattle.ac_separation.proofs.Rematrixing.{AreSoFar, more_clear, more_set, all_bands}
use Rattle.ac_separation.proofs.Spans.{begin_bound}
use Rattle.ac_separation.proofs.unrematrix.Goals as goal
use Rattle.ac_separation.proofs.unrematrix.Goals.{then-holds, else-holds}

pub cut-requires : goal.cut-requires
cut-requires c = begin_bound c.requires.spans.0 c.args.block.now c.args.spans.now c.requires.spans.1 c.requires.spans.2

pub loop-band-preserved : goal.loop-band-preserved
loop-band-preserved c =
    let n = c.loop-band.band in
    let cut = c.from-end.result in
    let old = c.args.values.now.c in
    let new = c.loop-band.values.c in
    let so_far : Coefs → Type 0 = λ v. AreSoFar (n + 1) c.args.b cut c.args.block.now old v.c in
    elim c.if-holds.branch [
      | then-holds w ↦
          let after = w.sums.new.values.c in
          let from_start : AreSums (band_start n) w.min-then-holds.result w.from.result (entry new) (entry after) =
          subst (λ (s : ℕ). AreSums s w.min-then-holds.result w.from.result (entry new) (entry after)) w.band_start-start.ensures.value w.sums.ensures in
          let end_is : w.min-then-holds.result ≡ min (band_start (n + 1)) cut = w.min-then-holds.ensures ∙ ap (λ (e : ℕ). min e cut) w.band_start.ensures.value in
          let to_end : AreSums (band_start n) (min (band_start (n + 1)) cut) w.from.result (entry new) (entry after) =
          subst (λ (e : ℕ). AreSums (band_start n) e w.from.result (entry new) (entry after)) end_is from_start in
          let sums : AreSums (band_start n) (min (band_start (n + 1)) cut) c.args.b (entry new) (entry after) =
          subst (λ (b : ℕ). AreSums (band_start n) (min (band_start (n + 1)) cut) b (entry new) (entry after)) w.from.ensures to_end in
          subst so_far (sym w.values-is)
          (more_set n c.args.b cut c.args.block.now old new (omega arith) c.loop-band.invariant after sums (sym c.holds.ensures ∙ w.if-holds.true))
      | else-holds w ↦
          subst so_far (sym w.values-is)
          (more_clear n c.args.b cut c.args.block.now old new (omega arith) c.loop-band.invariant (sym c.holds.ensures ∙ w.if-holds.false))
    ]

pub returns-clause-value : goal.returns-clause-value
returns-clause-value c = λ h is has d k seven row.
    let four : c.loop-band.band ≡ 4 = omega arith in
    let so_far = subst (λ (n : ℕ). AreSoFar n c.args.b c.from-end.result c.args.block.now c.args.values.now.c c.loop-band.values.c) four c.loop-band.invariant in
    let cut_is = c.from-end.ensures ∙ c.cut.ensures ∙ ap (cut_at (range_of (strategy_of c.args.block.now))) c.min.ensures in
    all_bands c.args.b c.from-end.result h c.args.block.now c.args.spans.now c.args.values.now.c c.loop-band.values.c is has cut_is so_far d k
