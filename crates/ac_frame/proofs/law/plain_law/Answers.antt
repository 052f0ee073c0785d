use Rattle.std.proofs.Common.{ℕ, List}
use Rattle.ac_frame.proofs.Frames.{Made}
use Rattle.ac_frame.proofs.Unique.{frame_size, first_part, both_parts, no_sync, one_frame}
use Rattle.ac_frame.proofs.Packed.{plain_of, packed_of, is_sized}
use Rattle.ac_frame.proofs.law.plain_law.Goals as goal

abbrev made : ℕ → ℕ → ℕ → ℕ → ℕ → List ℕ → Made
made fscod frmsizecod words bw first groups = record { fscod = fscod; frmsizecod = frmsizecod; words = words; bw = bw; first = first; groups = groups }

pub returns-clause-size : goal.returns-clause-size
returns-clause-size c = λ fscod frmsizecod words bw first groups frame s p. frame_size (made fscod frmsizecod words bw first groups) frame s p

pub returns-clause-first_part : goal.returns-clause-first_part
returns-clause-first_part c = λ fscod frmsizecod words bw first groups frame p. first_part (made fscod frmsizecod words bw first groups) frame p

pub returns-clause-both_parts : goal.returns-clause-both_parts
returns-clause-both_parts c = λ fscod frmsizecod words bw first groups frame p. both_parts (made fscod frmsizecod words bw first groups) frame p

pub returns-clause-no_sync : goal.returns-clause-no_sync
returns-clause-no_sync c = λ fscod frmsizecod words bw first groups frame p. no_sync (made fscod frmsizecod words bw first groups) frame p

pub returns-clause-one : goal.returns-clause-one
returns-clause-one c = λ fscod frmsizecod words bw first groups f g s bf bg p q. one_frame (made fscod frmsizecod words bw first groups) f g s bf bg p q

pub returns-clause-packed : goal.returns-clause-packed
returns-clause-packed c = λ q frame is m p. plain_of q frame is m p

pub returns-clause-packs : goal.returns-clause-packs
returns-clause-packs c = λ q code frame is m size p. packed_of q code frame is m size p

pub returns-clause-sized : goal.returns-clause-sized
returns-clause-sized c = λ q m. is_sized q m
