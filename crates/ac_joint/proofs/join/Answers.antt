use Rattle.ac_joint.proofs.Joined.{flags_same, joint_is, all_small}
use Rattle.std.proofs.Common.{◌∙◌}
use Rattle.ac_joint.proofs.join.Goals as goal

pub returns-clause-flags : goal.returns-clause-flags
returns-clause-flags c =
    c.rematrix_where-remat.ensures.flags ∙ flags_same c.args.shape.now c.args.coefs.now.c c.couple_where-coords.new.coefs.c c.couple_where-coords.ensures.shared

pub returns-clause-joint : goal.returns-clause-joint
returns-clause-joint c =
    joint_is c.args.shape.now c.args.coefs.now.c c.couple_where-coords.new.coefs.c c.couple_where-coords.ensures.shared c.rematrix_where-remat.new.coefs.c c.rematrix_where-remat.ensures.pair c.rematrix_where-remat.ensures.others

pub returns-clause-small : goal.returns-clause-small
returns-clause-small c =
    all_small c.args.shape.now c.args.coefs.now.c c.couple_where-coords.new.coefs.c c.couple_where-coords.ensures.shared c.rematrix_where-remat.new.coefs.c c.rematrix_where-remat.ensures.pair c.rematrix_where-remat.ensures.others c.requires.small
