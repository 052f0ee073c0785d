use Rattle.std.proofs.Common.{sym, subst}
use Rattle.ac_status.specs.declared.status.Status.{Status}
use Rattle.ac_app.specs.Decoded.{AnswersStream}
use Rattle.ac_app.proofs.Decodes.{status_leaves, answers}
use Rattle.ac_app.proofs.decoding.decode_all.Goals as goal

pub returns-clause-told : goal.returns-clause-told
returns-clause-told g c = λ bytes told. status_leaves c.decode-end.result c.ended.result bytes _ _ c.ended.ensures (c.decode-end.ensures.told bytes told)

pub returns-clause-answers : goal.returns-clause-answers
returns-clause-answers g c = λ bytes told.
    subst (λ (s : Status). AnswersStream bytes s) (sym c.ended.ensures)
    (answers c.decode-end.result bytes (λ frames is. c.decode-end.ensures.complete bytes frames told is) (λ frame fault is. c.decode-end.ensures.refused bytes frame fault told is)
    (λ is. c.decode-end.ensures.too_long bytes told is))
