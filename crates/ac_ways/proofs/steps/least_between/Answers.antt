use Rattle.std.proofs.Common.{◌+◌, sym, subst}
use Rattle.std.proofs.lemmas.List.{get_or-replicate}
use Rattle.ac_bound.specs.Steps.{kinds_of, IsLeastBetween}
use Rattle.ac_ways.proofs.Costing.{nothing_counted}
use Rattle.ac_ways.proofs.steps.least_between.Goals as goal

pub returns-then-blocks-eq0-clause-value : goal.returns-then-blocks-eq0-clause-value
returns-then-blocks-eq0-clause-value c v d j are =
    subst (IsLeastBetween v d c.args.part c.args.from c.args.to (kinds_of v.shape d + 1)) (sym (get_or-replicate 16 j 0 0 are.column))
    (nothing_counted v d c.args.part c.args.from c.args.to c.blocks-2.result c.requires.part c.requires.order c.requires.end c.blocks-2.ensures.value c.if-blocks-eq0.true)
