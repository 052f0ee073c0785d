use Rattle.std.proofs.Common.{arith, length}
use Rattle.ac_sent.specs.Padding.{to_skip}
use Rattle.ac_frame.specs.Plain.{total_bits}
use Rattle.ac_frame.proofs.Skips.{skipl_none, skipl_zero, skipl_takes, skipl_least, skipl_full, skip_order, front_kept, room_left, skips_within}
use Rattle.ac_frame.proofs.law.padding_law.Goals as goal

pub returns-clause-none : goal.returns-clause-none
returns-clause-none c = λ n. (skipl_none n, skipl_zero n)

pub returns-clause-least : goal.returns-clause-least
returns-clause-least c = λ n k h e. (skipl_takes n k h e, λ j b. skipl_least n k j e b)

pub returns-clause-full : goal.returns-clause-full
returns-clause-full c = λ n h. skipl_full n h

pub returns-clause-order : goal.returns-clause-order
returns-clause-order c = λ x block h some. skip_order x block h some

pub returns-clause-sum : goal.returns-clause-sum
returns-clause-sum c = λ words groups s. omega (arith, room_left words (length groups) s.least s.most s.few)

pub returns-clause-aux : goal.returns-clause-aux
returns-clause-aux c = λ words groups s. omega (arith, s.least, s.most, s.few, (skips_within (to_skip words (total_bits (length groups)) 0) (omega (arith, s.most))).0)

pub returns-clause-front : goal.returns-clause-front
returns-clause-front c = λ words groups s. front_kept words (length groups) s.least s.most s.few
