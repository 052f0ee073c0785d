use Rattle.std.proofs.Common.{refl, sym, subst}
use Rattle.ac_status.specs.declared.status.Status.{Status}
use Rattle.ac_encode.specs.Loop.{ended_status}
use Rattle.ac_encode.specs.Encodes.{EncodeHasCause}
use Rattle.ac_encode.proofs.Inputs.{head_cause, denied_cause}
use Rattle.ac_encode.proofs.Encodes.{stops_before, untaken, denies, at_first_by, suits_by, by_options, cause_by, ended_leaves, ended_cause}
use Rattle.ac_encode.proofs.encoding.encode.Goals as goal

pub returns-in-Err-clause-told : goal.returns-in-Err-clause-told
returns-in-Err-clause-told g c = λ bytes e.
    stops_before c.args.options c.in-Err.fault c.unread.result bytes _ _ c.unread.ensures (record { untaken = λ head is. c.in-Err.ensures.before_data bytes head e is; unwritten = refl })

pub returns-in-Err-clause-cause : goal.returns-in-Err-clause-cause
returns-in-Err-clause-cause g c = λ bytes e.
    subst (λ (s : Status). EncodeHasCause c.args.options s bytes) (sym c.unread.ensures) (head_cause c.args.options bytes c.in-Err.fault (c.in-Err.ensures.cause bytes e))

pub returns-in-Err-new-clause-told : goal.returns-in-Err-new-clause-told
returns-in-Err-new-clause-told g c = λ bytes e.
    let h = c.in-Ok.ensures.told bytes e in
    denies c.args.options c.in-Err-new.fault c.denied.result bytes c.in-Ok.head _ _ c.denied.ensures h (record { untaken = untaken bytes c.in-Ok.head _ h; unwritten = refl })

pub returns-in-Err-new-clause-cause : goal.returns-in-Err-new-clause-cause
returns-in-Err-new-clause-cause g c = λ bytes e.
    subst (λ (s : Status). EncodeHasCause c.args.options s bytes) (sym c.denied.ensures)
    (denied_cause c.args.options bytes c.in-Ok.head _ c.in-Err-new.fault (c.in-Ok.ensures.told bytes e) c.in-Err-new.ensures.fault)

pub returns-in_default-clause-told : goal.returns-in_default-clause-told
returns-in_default-clause-told g c = λ bytes e.
    record { untaken = untaken bytes c.in-Ok.head _ (c.in-Ok.ensures.told bytes e); unwritten = refl }

pub frames-end-requires-clause-suits : goal.frames-end-requires-clause-suits
frames-end-requires-clause-suits g c = suits_by c.args.options _ c.in-Ok.head _ c.in-Ok-new.ensures.value c.in-Ok-new.ensures.enough

pub frames-end-requires-clause-first : goal.frames-end-requires-clause-first
frames-end-requires-clause-first g c = at_first_by c.args.options _ _ c.in-Ok-new.ensures.value

pub returns-clause-told : goal.returns-clause-told
returns-clause-told g c = λ bytes e.
    ended_leaves c.args.options c.frames-end.result c.ended.result bytes _ _ _ _ c.ended.ensures
    (by_options c.args.options _ _ c.frames-end.result bytes _ _ c.in-Ok-new.ensures.value (c.frames-end.ensures.told bytes (c.in-Ok.ensures.told bytes e)))

pub returns-clause-cause : goal.returns-clause-cause
returns-clause-cause g c = λ bytes e.
    subst (λ (s : Status). EncodeHasCause c.args.options s bytes) (sym c.ended.ensures)
    (cause_by c.args.options _ _ (ended_status c.frames-end.result) bytes c.in-Ok-new.ensures.value
    (ended_cause _ c.frames-end.result bytes _ _ (c.frames-end.ensures.told bytes (c.in-Ok.ensures.told bytes e))))

pub returns-clause-most_read : goal.returns-clause-most_read
returns-clause-most_read g c = λ bytes e. c.frames-end.ensures.most_read bytes (c.in-Ok.ensures.told bytes e)
