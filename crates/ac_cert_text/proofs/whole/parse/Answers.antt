use Rattle.std.proofs.Common.{subst}
use Rattle.ac_cert_text.specs.declared.fault.Fault.{Fault}
use Rattle.ac_cert_text.specs.declared.fault.Fault.TheVariants.{Bad, Deep}
use Rattle.ac_cert_text.specs.Codec.{Fails}
use Rattle.ac_cert_text.specs.Text.{read_whole}
use Rattle.ac_cert_text.proofs.whole.parse.Goals as goal

pub returns-in-Ok : goal.returns-in-Ok
returns-in-Ok c = record { exact = (c.whole.new.cursor.rest.now, c.in-Ok.ensures) }

pub returns-in-Err-Deep : goal.returns-in-Err-Deep
returns-in-Err-Deep c =
    let rest = c.whole.new.cursor.rest.now in
    record { exact = ((Deep, rest), subst (λ (e : Fault). Fails e rest (read_whole c.args.text.now)) c.in-Err-Deep.field-0-is c.in-Err-Deep.ensures) }

pub returns-in-Err-Bad : goal.returns-in-Err-Bad
returns-in-Err-Bad c =
    let rest = c.whole.new.cursor.rest.now in
    record { exact = ((Bad, rest), subst (λ (e : Fault). Fails e rest (read_whole c.args.text.now)) c.in-Err-Bad.field-0-is c.in-Err-Bad.ensures) }
