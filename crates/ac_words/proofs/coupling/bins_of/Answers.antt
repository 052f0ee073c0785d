use Rattle.std.proofs.Common.{arith}
use Rattle.ac_words.proofs.CoupleTexts.{parts_of_bins, too_early}
use Rattle.ac_words.proofs.coupling.bins_of.Goals as goal

pub returns-in_default : goal.returns-in_default
returns-in_default c = λ begin end h.
    rw c.in_default.is at (parts_of_bins c.args.text.now c.split_once.result begin end c.split_once.ensures.cases h)

pub returns-in_default-number_to : goal.returns-in_default-number_to
returns-in_default-number_to c = λ begin end h.
    let parts = rw c.in-Some.is at (parts_of_bins c.args.text.now c.split_once.result begin end c.split_once.ensures.cases h) in
    c.in_default-number_to.ensures begin (parts.0, h.1)

pub returns-in_default-number_to-2 : goal.returns-in_default-number_to-2
returns-in_default-number_to-2 c = λ begin end h.
    let parts = rw c.in-Some.is at (parts_of_bins c.args.text.now c.split_once.result begin end c.split_once.ensures.cases h) in
    c.in_default-number_to-2.ensures end (parts.1, h.2)

pub returns-then-begin-most : goal.returns-then-begin-most
returns-then-begin-most c = λ begin end h.
    let parts = rw c.in-Some.is at (parts_of_bins c.args.text.now c.split_once.result begin end c.split_once.ensures.cases h) in
    too_early c.in-Some.begin.now c.in-Some.end.now c.in-Some-number_to.begin c.in-Some-number_to-2.end begin end
    c.in-Some-number_to.ensures c.in-Some-number_to-2.ensures (omega arith) (parts.0, h.1) (parts.1, h.2) h.3
