use Rattle.std.proofs.Common.{◌+◌, ◌-◌, slice_index, arith, sym, ◌∙◌}
use Rattle.ac_alloc.proofs.Leaking.{first_rise_next}
use Rattle.ac_alloc.proofs.lowcomp.find_begin.Goals as goal

pub loop-b-preserved : goal.loop-b-preserved
loop-b-preserved c =
    let b = c.loop-b.b in
    sym (first_rise_next (λ j. slice_index c.args.bndpsd.now j) b (c.if-lfe.end - b) (c.if-lfe.end - (b + 1)) (omega arith) c.if-bndpsd-b.false) ∙ c.loop-b.invariant
