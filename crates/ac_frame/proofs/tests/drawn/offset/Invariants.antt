use Rattle.ac_frame.proofs.tests.drawn.offset.Given as goal

abbrev pub decreases-loop-t : goal.decreases-loop-t
decreases-loop-t l = l.t
