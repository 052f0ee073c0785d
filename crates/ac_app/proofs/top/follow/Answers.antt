use Rattle.std.proofs.Common.{sym, subst}
use Rattle.ac_words.specs.declared.meaning.Command.{Command}
use Rattle.ac_app.specs.Run.{CommandHasCause}
use Rattle.ac_app.proofs.Decodes.{cause}
use Rattle.ac_app.proofs.top.follow.Goals as goal

pub returns-in-Decode-clause-cause : goal.returns-in-Decode-clause-cause
returns-in-Decode-clause-cause g c = λ bytes told.
    subst (λ (a : Command). CommandHasCause a c.decode_all.result bytes) (sym c.in-Decode.is) (cause c.decode_all.result bytes _ _ (c.decode_all.ensures.told bytes told))
