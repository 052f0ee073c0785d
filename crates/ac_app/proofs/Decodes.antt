-- From the end of a decode to its status.
use Rattle.std.proofs.Common.{◌≡◌, ◌⊎◌, ℕ, List, refl, inl, inr, ap, sym, subst}
use Rattle.std.specs.Prelude.{Result, Ok, Err, MatchResult}
use Rattle.ac_io.specs.declared.within.Unread.TheVariants as unread
use Rattle.ac_reading.specs.Framed.{Reading}
use Rattle.ac_record.specs.declared.codes.FrameFault.{FrameFault}
use Rattle.ac_decode.specs.declared.halt.Halt.{Halt}
use Rattle.ac_decode.specs.declared.halt.Halt.TheVariants.{Stream, Input, Sink}
use Rattle.ac_decode.specs.Leaves.{Decoded, HaltLeaves, IsBrokenEnd, AnswersUnlessBroken}
use Rattle.ac_decode.specs.Stream.{IsEnd, IsBadStream, IsTooLong}
use Rattle.ac_status.specs.declared.status.Status.{Status}
use Rattle.ac_status.specs.declared.status.Status.TheVariants as statuses
use Rattle.ac_world.specs.World.{World}
use Rattle.ac_world.specs.declared.writing.Broken.TheVariants as sinks
use Rattle.ac_app.specs.Decoded.{ended_status, DecodeLeaves, DecodeHasCause, AnswersStream, ComesUnless}

leaves : (end : Result (Unit {0}) Halt) (bytes : List ℕ) (old new : World) → MatchResult end (λ _. Decoded bytes old new) (λ halt. HaltLeaves halt bytes old new)
    → DecodeLeaves (ended_status end) bytes old new
leaves (Ok _) bytes old new h = h
leaves (Err (Stream frame fault)) bytes old new h = h
leaves (Err (Input unread.Failed)) bytes old new h = h
leaves (Err (Input unread.TooLong)) bytes old new h = (refl, h)
leaves (Err (Sink broken)) bytes old new h = (broken, h)

pub status_leaves : (end : Result (Unit {0}) Halt) (status : Status) (bytes : List ℕ) (old new : World) → status ≡ ended_status end
    → MatchResult end (λ _. Decoded bytes old new) (λ halt. HaltLeaves halt bytes old new) → DecodeLeaves status bytes old new
status_leaves end status bytes old new e h = subst (λ (s : Status). DecodeLeaves s bytes old new) (sym e) (leaves end bytes old new h)

-- ---- why a decode has its status

pub cause : (status : Status) (bytes : List ℕ) (old new : World) → DecodeLeaves status bytes old new → DecodeHasCause status bytes
cause statuses.Ok bytes old new h = (h.frames, h.is_end)
cause statuses.Usage bytes old new h = h
cause (statuses.BadWav kind place) bytes old new h = h
cause (statuses.RateTooLow part needed room) bytes old new h = h
cause (statuses.BadStream frame fault) bytes old new h = h.bad
cause statuses.ReadFault bytes old new h = tt
cause statuses.WriteFault bytes old new h = tt
cause statuses.NoMemory bytes old new h = tt
cause (statuses.TooLong most) bytes old new h = (h.0, h.1.0)

-- ---- the status that the bytes ask for

broken_status : (end : Result (Unit {0}) Halt) → IsBrokenEnd end → (ended_status end ≡ statuses.ReadFault) ⊎ (ended_status end ≡ statuses.WriteFault)
broken_status (Ok _) h = absurd h
broken_status (Err (Stream frame fault)) h = absurd h
broken_status (Err (Input unread.Failed)) h = inl refl
broken_status (Err (Input unread.TooLong)) h = absurd h
broken_status (Err (Sink broken)) h = inr refl

fails : (status wanted : Status) → (status ≡ statuses.ReadFault → ⊥) → (status ≡ statuses.WriteFault → ⊥) → (status ≡ statuses.ReadFault) ⊎ (status ≡ statuses.WriteFault) → status ≡ wanted
fails status wanted a b (inl e) = absurd (a e)
fails status wanted a b (inr e) = absurd (b e)

unless : (wanted end : Result (Unit {0}) Halt) → AnswersUnlessBroken wanted end → ComesUnless (ended_status wanted) (ended_status end)
unless wanted end (inl same) a b c = ap ended_status same
unless wanted end (inr broken) a b c = fails (ended_status end) (ended_status wanted) a b (broken_status end broken)

pub answers : (end : Result (Unit {0}) Halt) (bytes : List ℕ) → ((frames : List Reading) → IsEnd bytes frames → AnswersUnlessBroken (Ok tt) end)
    → ((frame : ℕ) (fault : FrameFault) → IsBadStream bytes frame fault → AnswersUnlessBroken (Err (Stream frame fault)) end)
    → (IsTooLong bytes → AnswersUnlessBroken (Err (Input unread.TooLong)) end) → AnswersStream bytes (ended_status end)
answers end bytes decoded bad long = record {
  decoded = λ frames is. unless (Ok tt) end (decoded frames is);
  bad = λ frame fault is. unless (Err (Stream frame fault)) end (bad frame fault is);
  long = λ is. unless (Err (Input unread.TooLong)) end (long is);
}
