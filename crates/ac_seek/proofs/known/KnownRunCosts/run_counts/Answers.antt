use Rattle.std.proofs.Common.{sym, subst, Option, IfSome}
use Rattle.ac_mant.specs.declared.counts.Counts.{Counts}
use Rattle.ac_cost.specs.Records.{AtOffset}
use Rattle.ac_seek.specs.declared.step.Step.{Step}
use Rattle.ac_seek.specs.Boards.{HasCount}
use Rattle.ac_seek.proofs.known.KnownRunCosts.run_counts.Goals as goal

pub returns-in-Some-clause-value : goal.returns-in-Some-clause-value
returns-in-Some-clause-value g c =
    let step : Step = record { channel = c.args.channel; run = c.args.run.now } in
    let place = c.place.result in
    let has = subst (λ (o : Option Counts). IfSome o (HasCount (g.C.RunCosts.offset c.self.inside.table.now) place)) c.in-Some.is (c.self.invariant.each place) in
    (subst (λ (v : AtOffset). HasCount v place c.in-Some.counts) c.self.view_is has step c.requires (sym c.place.ensures.value)).0

pub returns-in-Some-clause-bound : goal.returns-in-Some-clause-bound
returns-in-Some-clause-bound g c =
    let step : Step = record { channel = c.args.channel; run = c.args.run.now } in
    let place = c.place.result in
    let has = subst (λ (o : Option Counts). IfSome o (HasCount (g.C.RunCosts.offset c.self.inside.table.now) place)) c.in-Some.is (c.self.invariant.each place) in
    (subst (λ (v : AtOffset). HasCount v place c.in-Some.counts) c.self.view_is has step c.requires (sym c.place.ensures.value)).1
