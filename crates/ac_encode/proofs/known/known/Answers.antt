use Rattle.ac_encode.proofs.known.known.Goals as goal

pub returns-clause-depends : goal.returns-clause-depends
returns-clause-depends c = λ o l i x y plan frame same. (c.frame_law.ensures.depends o l i x y plan frame same).0
