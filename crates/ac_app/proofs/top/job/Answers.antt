use Rattle.std.proofs.Common.{ap, inl, refl, Err}
use Rattle.ac_words.specs.declared.fault.WordsFault.{WordsFault}
use Rattle.ac_words.specs.declared.meaning.Command.TheVariants.{Decode}
use Rattle.ac_app.proofs.Jobs.{wants_memory, in_grammar, one_command, job_leaves, job_cause}
use Rattle.ac_app.proofs.top.job.Goals as goal

pub returns-in-Ok-clause-told : goal.returns-in-Ok-clause-told
returns-in-Ok-clause-told g c = λ bytes told.
    job_leaves _ c.in-Ok.asked c.follow.result bytes _ _ c.in-Ok.ensures.value c.follow.ensures.not_usage (c.follow.ensures.told bytes told)

pub returns-in-Ok-clause-cause : goal.returns-in-Ok-clause-cause
returns-in-Ok-clause-cause g c = λ bytes told.
    job_cause _ c.in-Ok.asked c.follow.result bytes c.in-Ok.ensures.value c.follow.ensures.not_usage (c.follow.ensures.cause bytes told)

pub returns-in-Ok-clause-answers : goal.returns-in-Ok-clause-answers
returns-in-Ok-clause-answers g c = λ bytes told asks.
    c.follow.ensures.answers bytes told (one_command _ c.in-Ok.asked Decode c.in-Ok.ensures.value asks)

pub returns-in-Err-Usage-clause-answers : goal.returns-in-Err-Usage-clause-answers
returns-in-Err-Usage-clause-answers g c = λ bytes told asks. absurd (c.in-Err-Usage.ensures.cause (ap (λ (e : WordsFault). Err e) c.in-Err-Usage.field-0-is) (in_grammar _ Decode asks))

pub returns-in-Err-NoMemory-clause-told : goal.returns-in-Err-NoMemory-clause-told
returns-in-Err-NoMemory-clause-told g c = λ bytes told. inl refl

pub returns-in-Err-NoMemory-clause-answers : goal.returns-in-Err-NoMemory-clause-answers
returns-in-Err-NoMemory-clause-answers g c = λ bytes told asks. wants_memory bytes
