use Rattle.std.proofs.Common.{◌≡◌, ◌<◌, ℕ, ℤ, pos, ◌+ℤ◌, inl, inr, slice_index, length, arith, ap, ◌∙◌}
use Rattle.ac_alloc.specs.Pointers.{bap_of, kept}
use Rattle.ac_alloc.specs.Integration.{psd}
use Rattle.ac_base.specs.Allocation.{masktab_list}
use Rattle.ac_alloc.proofs.Lists.{written_more, kept_more}
use Rattle.ac_alloc.proofs.pointers.allocate_bins.Goals as goal

pub returns-clause-rest : goal.returns-clause-rest
returns-clause-rest c =
    λ (k : ℕ) h. elim h [ inl a ↦ c.loop-k.invariant.1 k (inl a) | inr b ↦ c.loop-k.invariant.1 k (inr (omega arith)) ]

pub loop-k-preserved : goal.loop-k-preserved
loop-k-preserved c =
    let levels = c.args.levels.now in
    let k = c.loop-k.k in
    let exps = c.args.exps.now in
    let P = λ (j : ℕ) (x : ℕ). (level : ℤ) → pos (slice_index levels (slice_index masktab_list j)) ≡ kept level +ℤ pos 2048 → x ≡ bap_of level (psd exps j) in
    let here : P k c.bap_at.result = λ level e. c.bap_at.ensures.value level (ap (λ v. pos (slice_index levels v)) c.band_of.ensures.value ∙ e) ∙ ap (bap_of level) c.psd.ensures.value in
    let inside : k < length c.loop-k.out = omega arith in (
      written_more P 0 c.loop-k.out c.args.start k c.bap_at.result inside c.loop-k.invariant.0 here,
      kept_more 0 c.loop-k.out c.args.out.now c.args.start k c.bap_at.result (omega arith) c.loop-k.invariant.1,
    )
