use Rattle.std.proofs.Common.{sym, ap, ◌∙◌, subst, slice_index_or}
use Rattle.ac_base.specs.declared.shapes.Shape.{Shape}
use Rattle.ac_cost.specs.Records.{AtOffset}
use Rattle.ac_cost.specs.Runs.{IsRunOf}
use Rattle.ac_seek.specs.declared.step.Step.{Step}
use Rattle.ac_seek.proofs.known.Known.learn.Goals as goal

pub count-requires : goal.count-requires
count-requires g c =
    let nothing : Step = record { channel = 0; run = record { from = 0; to = 0; kind = 0 } } in
    let step = slice_index_or c.args.steps.now c.loop-step.step-index nothing in
    subst (λ (s : Shape). IsRunOf s step.channel step.run) (sym (ap (λ (v : AtOffset). v.shape) c.loop-step.invariant ∙ c.requires)) (c.is_run.ensures.0 c.if-is_run.true)
