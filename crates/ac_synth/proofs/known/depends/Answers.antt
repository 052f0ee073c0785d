use Rattle.ac_synth.proofs.known.depends.Goals as goal

pub returns : goal.returns
returns c = λ o l i x y plan frame same. (c.frame_law.ensures.depends o l i x y plan frame same).0
