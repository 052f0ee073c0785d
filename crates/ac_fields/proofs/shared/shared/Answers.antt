use Rattle.std.proofs.Common.{refl}
use Rattle.ac_sent.specs.Fields.{sent_fields}
use Rattle.ac_fields.proofs.shared.shared.Goals as goal

pub returns : goal.returns
unfolding sent_fields
returns c =
    rw (c.flags.ensures, c.numbers.ensures, c.both.ensures, c.all_exponents.ensures, c.all_mantissas.ensures)
    (rw (c.from-full.ensures, c.full.ensures.value, c.is_some-coupled.ensures) refl)
