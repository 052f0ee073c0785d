use Rattle.std.proofs.Common.{◌≡◌, ◌+◌, ◌*◌, slice_index, ap, ◌∙◌, subst, arith}
use Rattle.ac_cost.specs.Sixths.{sent_in}
use Rattle.ac_bound.specs.Steps.{between}
use Rattle.ac_bound.proofs.Leasts.{between-is}
use Rattle.ac_ways.specs.Columns.{entry_of}
use Rattle.ac_ways.proofs.Costing.{run_cost}
use Rattle.ac_ways.proofs.costs.run_costs.Goals as goal

pub returns-clause-value : goal.returns-clause-value
returns-clause-value c v d j are =
    let kinds = c.args.kinds.now in
    let rows = c.args.rows.now in
    let part = c.args.part in
    let run = c.args.run.now in
    let sent = c.sent-bits.result in
    let blocks = c.blocks-2.result in
    let is = between-is v.shape d run.from run.to run.kind are.channel c.requires.order c.requires.end c.requires.some (omega (arith, c.requires.taken, are.count)) in
    let sends = subst (λ k. sent_in part (between run.from run.to run.kind) (slice_index kinds.bits k) ≡ sent) c.from.ensures (c.sent-bits.ensures.value run.to run.kind) in
    let e = c.costs.ensures.value j are.column ∙ ap (λ k. 6 * sent + blocks * entry_of rows k j) c.row.ensures.value in
    run_cost v d part j kinds rows run sent blocks (slice_index c.costs.result j) are is sends (c.blocks-2.ensures.value run.kind) e
