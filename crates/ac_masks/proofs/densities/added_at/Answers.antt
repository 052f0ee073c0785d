use Rattle.ac_masks.proofs.densities.added_at.Goals as goal

pub returns-clause-bound : goal.returns-clause-bound
returns-clause-bound c = c.added.ensures.bound
