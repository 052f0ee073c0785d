use Rattle.ac_cost.proofs.Listing.{listed_is, small_exps}
use Rattle.ac_cost.proofs.listed.list_run.Goals as goal

pub returns-clause-value : goal.returns-clause-value
returns-clause-value c =
    listed_is c.args.shape.now c.args.raw.now.e c.args.c c.args.run.now c.span-span.result c.encoder.result c.greatest.new.out c.of-mask.result c.span-span.ensures.value (c.encoder.ensures.value c.args.shape.now.sampling) c.greatest.ensures.value c.of-mask.ensures.masks c.of-mask.ensures.floor

pub returns-clause-small : goal.returns-clause-small
returns-clause-small c =
    λ k p q. small_exps c.span-span.result c.greatest.new.out c.greatest.ensures.greatest.spellable.small c.greatest.ensures.rest k
