use Rattle.std.proofs.Common.{sym}
use Rattle.ac_enc.proofs.Cheapest.{none_fits}
use Rattle.ac_enc.proofs.Frames.{size, first_part, both_parts, one, mono}
use Rattle.ac_enc.proofs.Places.{frame_same}
use Rattle.ac_enc.proofs.Sizes.{kept, listed}
use Rattle.ac_enc.proofs.law.frame_law.Goals as goal

pub returns-clause-size : goal.returns-clause-size
returns-clause-size c = size

pub returns-clause-first_part : goal.returns-clause-first_part
returns-clause-first_part c = first_part

pub returns-clause-both_parts : goal.returns-clause-both_parts
returns-clause-both_parts c = both_parts

pub returns-clause-one : goal.returns-clause-one
returns-clause-one c = one

pub returns-clause-depends : goal.returns-clause-depends
returns-clause-depends c = λ o l i x y plan frame same. (frame_same o l i x y plan frame same, frame_same o l i y x plan frame (λ channel p below within. sym (same channel p below within)))

pub returns-clause-mono : goal.returns-clause-mono
returns-clause-mono c = mono

pub returns-clause-too_low : goal.returns-clause-too_low
returns-clause-too_low c = λ o l part needed room t raw couple shape low which is feasible. none_fits o l couple shape raw t low.short which is feasible

pub returns-clause-keeps_rate : goal.returns-clause-keeps_rate
returns-clause-keeps_rate c = kept

pub returns-clause-listed : goal.returns-clause-listed
returns-clause-listed c = listed
