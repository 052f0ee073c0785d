use Rattle.std.proofs.Common.{◌≡◌, ◌+◌, ℕ, arith, subst, sym, ◌∙◌}
use Rattle.ac_base.specs.declared.coefficients.Coefs.{Coefs}
use Rattle.ac_energy.specs.Coefficients.{entry}
use Rattle.ac_separation.specs.Separation.{uncoupled_of}
use Rattle.ac_separation.proofs.Spans.{coupling_span_is, none_is}
use Rattle.ac_separation.proofs.Uncoupling.{AreSoFar, more_free, more_coupled, all_channels, uncoupled_none}
use Rattle.ac_separation.proofs.uncouple.Goals as goal
use Rattle.ac_separation.proofs.uncouple.Goals.{then-is_coupled, else-is_coupled}

pub shared_of-shared-requires-clause-start : goal.shared_of-shared-requires-clause-start
shared_of-shared-requires-clause-start c =
    let k = c.requires.spans in
    (coupling_span_is k.0 c.args.block.now c.args.spans.now k.1 k.2 c.coupling_channel-full.result (omega arith) (c.coupling_channel-full.ensures.found (omega arith))).start

pub shared_of-shared-requires-clause-end : goal.shared_of-shared-requires-clause-end
shared_of-shared-requires-clause-end c =
    let k = c.requires.spans in
    (coupling_span_is k.0 c.args.block.now c.args.spans.now k.1 k.2 c.coupling_channel-full.result (omega arith) (c.coupling_channel-full.ensures.found (omega arith))).end

pub shared_of-shared-requires-clause-whole : goal.shared_of-shared-requires-clause-whole
shared_of-shared-requires-clause-whole c =
    let k = c.requires.spans in
    (coupling_span_is k.0 c.args.block.now c.args.spans.now k.1 k.2 c.coupling_channel-full.result (omega arith) (c.coupling_channel-full.ensures.found (omega arith))).whole

pub loop-c-preserved : goal.loop-c-preserved
loop-c-preserved c =
    let so_far : Coefs → Type 0 = λ v. AreSoFar (c.loop-c.c + 1) c.from-b.result c.args.block.now c.args.spans.now c.shared_of-shared.result c.args.values.now.c v.c in
    elim c.if-is_coupled.branch [
      | then-is_coupled w ↦
          subst so_far (sym w.values-is)
          (more_coupled c.loop-c.c c.from-b.result c.args.block.now c.args.spans.now c.shared_of-shared.result c.args.values.now.c c.loop-c.values.c c.loop-c.invariant
          w.separate.new.values.c w.separate.ensures.own w.separate.ensures.others (sym c.is_coupled.ensures ∙ w.if-is_coupled.true))
      | else-is_coupled w ↦
          subst so_far (sym w.values-is)
          (more_free c.loop-c.c c.from-b.result c.args.block.now c.args.spans.now c.shared_of-shared.result c.args.values.now.c c.loop-c.values.c c.loop-c.invariant
          (sym c.is_coupled.ensures ∙ w.if-is_coupled.false))
    ]

pub returns-after-loop-c-clause-value : goal.returns-after-loop-c-clause-value
returns-after-loop-c-clause-value c = λ h is has d k seven row.
    let full = c.coupling_channel-full.result in
    let five : c.loop-c.c ≡ 5 = omega arith in
    let so_far = subst (λ (n : ℕ). AreSoFar n c.from-b.result c.args.block.now c.args.spans.now c.shared_of-shared.result c.args.values.now.c c.loop-c.values.c) five c.loop-c.invariant in
    subst (λ (b : ℕ). entry c.loop-c.values.c d b k ≡ uncoupled_of h c.args.block.now (λ e j. entry c.args.values.now.c e b j) d k) c.from-b.ensures
    (all_channels full c.from-b.result h c.args.block.now c.args.spans.now c.shared_of-shared.result c.args.values.now.c c.loop-c.values.c is has
    (omega arith) (c.coupling_channel-full.ensures.found (omega arith)) c.shared_of-shared.ensures.span c.shared_of-shared.ensures.row so_far d k seven)

pub returns-else-full-lt7-clause-value : goal.returns-else-full-lt7-clause-value
returns-else-full-lt7-clause-value c = λ h is has d k seven row.
    let none = none_is h c.args.block.now c.args.spans.now is has (λ i few. c.coupling_channel-full.ensures.first i (omega arith)) in
    sym (uncoupled_none h c.args.block.now (λ e j. entry c.args.values.now.c e c.args.b j) d k none)
