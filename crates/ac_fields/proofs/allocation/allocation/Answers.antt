use Rattle.std.proofs.Common.{refl}
use Rattle.ac_sent.specs.Fields.{sent_fields}
use Rattle.ac_fields.proofs.allocation.allocation.Goals as goal

pub returns : goal.returns
unfolding sent_fields
returns c =
    rw (c.number.ensures, c.number-2.ensures, c.number-3.ensures, c.number-4.ensures, c.number-5.ensures, c.number-6.ensures)
    (rw (c.number-7.ensures, c.number-8.ensures, c.number-9.ensures, c.number-10.ensures, c.number-11.ensures, c.number-12.ensures)
    (rw (c.both.ensures, c.both-2.ensures, c.both-3.ensures, c.both-4.ensures, c.both-5.ensures, c.both-6.ensures)
    (rw (c.flag.ensures, c.numbers.ensures, c.numbers-2.ensures)
    (rw (c.from-full.ensures, c.full.ensures.value, c.is_some-coupled.ensures) refl))))
