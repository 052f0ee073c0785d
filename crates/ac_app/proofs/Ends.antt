-- How a run ends.
use Rattle.std.proofs.Common.{◌≡◌, ℕ, arith, Bool, true, false, List, refl, ap, sym, subst, ◌∙◌}
use Rattle.ac_io.specs.Outside.{Adds}
use Rattle.ac_io.proofs.Written.{adds_both}
use Rattle.ac_base.specs.declared.sizes.Part.{Part}
use Rattle.ac_riff.specs.declared.fault.WavKind.{WavKind}
use Rattle.ac_riff.specs.declared.head.WavHead.{WavHead}
use Rattle.ac_words.specs.Grammar.{InGrammar, Text}
use Rattle.ac_words.specs.declared.meaning.Command.{Command}
use Rattle.ac_words.specs.declared.meaning.Command.TheVariants.{Encode, Decode, Synth}
use Rattle.ac_words.specs.declared.meaning.Options.{Options}
use Rattle.ac_status.specs.declared.status.Status.{Status}
use Rattle.ac_status.specs.declared.status.Status.TheVariants as statuses
use Rattle.ac_encode.specs.Input.{IsBegun, IsInput, IsRefused, IsTooLong, IsRateTooLow}
use Rattle.ac_world.specs.Limit.{limit}
use Rattle.ac_status.specs.Lines.{status_line}
use Rattle.ac_encode.specs.Encodes.{Encodes}
use Rattle.ac_decode.specs.Leaves.{Decoded}
use Rattle.ac_decode.specs.Lines.{lines_of}
use Rattle.ac_synth.specs.Synth.{IsGenerated, sum_of, synth_line}
use Rattle.ac_app.specs.Decoded.{IsDecoded, AnswersStream, ComesUnless}
use Rattle.ac_app.specs.Generated.{IsSynthesised}
use Rattle.ac_app.specs.Run.{CommandLeaves, CommandHasCause, CommandIsDone, JobLeaves, HasCause, Tail, answer_of, RunLeaves, IsEncoded, IsDone, AsksEncode}
use Rattle.ac_world.specs.World.{Told, World}
use Rattle.ac_encode.proofs.Causes.{refused_by, too_long_by, too_low_by, complete_by}
use Rattle.ac_app.proofs.Jobs.{asked_cause}

-- ---- the answer

-- the status line changes Ok alone
answer_kept : (P : Status → Type 0) (status : Status) (whole : Bool) → (P statuses.Ok → P statuses.WriteFault) → P status → P (answer_of status whole)
answer_kept P statuses.Ok true turn t = t
answer_kept P statuses.Ok false turn t = turn t
answer_kept P statuses.Usage true turn t = t
answer_kept P statuses.Usage false turn t = t
answer_kept P (statuses.BadWav kind place) true turn t = t
answer_kept P (statuses.BadWav kind place) false turn t = t
answer_kept P (statuses.RateTooLow part needed room) true turn t = t
answer_kept P (statuses.RateTooLow part needed room) false turn t = t
answer_kept P (statuses.BadStream frame fault) true turn t = t
answer_kept P (statuses.BadStream frame fault) false turn t = t
answer_kept P statuses.ReadFault true turn t = t
answer_kept P statuses.ReadFault false turn t = t
answer_kept P statuses.WriteFault true turn t = t
answer_kept P statuses.WriteFault false turn t = t
answer_kept P statuses.NoMemory true turn t = t
answer_kept P statuses.NoMemory false turn t = t
answer_kept P (statuses.TooLong most) true turn t = t
answer_kept P (statuses.TooLong most) false turn t = t

ok_answer : (status : Status) (whole : Bool) → answer_of status whole ≡ statuses.Ok → (status ≡ statuses.Ok) × (whole ≡ true)
ok_answer statuses.Ok true e = (refl, refl)
ok_answer statuses.Ok false e = absurd cc
ok_answer statuses.Usage true e = absurd cc
ok_answer statuses.Usage false e = absurd cc
ok_answer (statuses.BadWav kind place) true e = absurd cc
ok_answer (statuses.BadWav kind place) false e = absurd cc
ok_answer (statuses.RateTooLow part needed room) true e = absurd cc
ok_answer (statuses.RateTooLow part needed room) false e = absurd cc
ok_answer (statuses.BadStream frame fault) true e = absurd cc
ok_answer (statuses.BadStream frame fault) false e = absurd cc
ok_answer statuses.ReadFault true e = absurd cc
ok_answer statuses.ReadFault false e = absurd cc
ok_answer statuses.WriteFault true e = absurd cc
ok_answer statuses.WriteFault false e = absurd cc
ok_answer statuses.NoMemory true e = absurd cc
ok_answer statuses.NoMemory false e = absurd cc
ok_answer (statuses.TooLong most) true e = absurd cc
ok_answer (statuses.TooLong most) false e = absurd cc

-- the status line leaves want of memory as it is
pub still_wanting : (status result : Status) (whole : Bool) → result ≡ answer_of status whole → (result ≡ statuses.NoMemory → ⊥) → status ≡ statuses.NoMemory → ⊥
still_wanting status result whole e not is = not (e ∙ ap (λ (s : Status). answer_of s whole) is ∙ wanting whole)
  where
    wanting : (w : Bool) → answer_of statuses.NoMemory w ≡ statuses.NoMemory
    wanting true = refl
    wanting false = refl

pub still_outside : (ws : List Text) (status result : Status) (whole : Bool) → result ≡ answer_of status whole
    → ((InGrammar ws → ⊥) → (status ≡ statuses.NoMemory → ⊥) → status ≡ statuses.Usage) → (InGrammar ws → ⊥) → (result ≡ statuses.NoMemory → ⊥) → result ≡ statuses.Usage
still_outside ws status result whole e usage none not =
    e ∙ ap (λ (s : Status). answer_of s whole) (usage none (still_wanting status result whole e not)) ∙ said whole
  where
    said : (w : Bool) → answer_of statuses.Usage w ≡ statuses.Usage
    said true = refl
    said false = refl

-- ---- causes

begun_of : (o : Options) (bytes : List ℕ) (head : WavHead) → IsInput o bytes head → IsBegun o bytes head
begun_of o bytes head i = record { begins = i.wav.whole.begins; within = omega (arith, i.wav.within); suits = i.suits }

turn : (c : Command) (bytes : List ℕ) → CommandHasCause c statuses.Ok bytes → CommandHasCause c statuses.WriteFault bytes
turn (Encode o) bytes (head, input) = (head, begun_of o bytes head input)
turn Decode bytes h = tt
turn (Synth seed frames) bytes h = tt

turns : (ws : List Text) (bytes : List ℕ) → HasCause ws statuses.Ok bytes → HasCause ws statuses.WriteFault bytes
turns ws bytes (c, g, h) = (c, g, turn c bytes h)

pub run_cause : (ws : List Text) (status result : Status) (whole : Bool) (bytes : List ℕ) → result ≡ answer_of status whole → HasCause ws status bytes → HasCause ws result bytes
run_cause ws status result whole bytes e h = subst (λ (s : Status). HasCause ws s bytes) (sym e) (answer_kept (λ (s : Status). HasCause ws s bytes) status whole (turns ws bytes) h)

-- ---- encode

pub refused_is : (ws : List Text) (o : Options) (result : Status) (bytes : List ℕ) (kind : WavKind) (place : ℕ) → HasCause ws result bytes → AsksEncode ws o → IsRefused o bytes kind place
    → (result ≡ statuses.ReadFault → ⊥) → (result ≡ statuses.WriteFault → ⊥) → (result ≡ statuses.NoMemory → ⊥) → result ≡ statuses.BadWav kind place
refused_is ws o result bytes kind place h g r a b c = refused_by o result bytes kind place (asked_cause ws (Encode o) result bytes g h c) r a b c

pub too_long_is : (ws : List Text) (o : Options) (result : Status) (bytes : List ℕ) → HasCause ws result bytes → AsksEncode ws o → IsTooLong o bytes
    → (result ≡ statuses.ReadFault → ⊥) → (result ≡ statuses.WriteFault → ⊥) → (result ≡ statuses.NoMemory → ⊥) → result ≡ statuses.TooLong limit
too_long_is ws o result bytes h g r a b c = too_long_by o result bytes (asked_cause ws (Encode o) result bytes g h c) r a b c

pub too_low_is : (ws : List Text) (o : Options) (result : Status) (bytes : List ℕ) (part : Part) (needed room : ℕ) → HasCause ws result bytes → AsksEncode ws o → IsRateTooLow o bytes part needed room
    → (result ≡ statuses.ReadFault → ⊥) → (result ≡ statuses.WriteFault → ⊥) → (result ≡ statuses.NoMemory → ⊥) → result ≡ statuses.RateTooLow part needed room
too_low_is ws o result bytes part needed room h g r a b c = too_low_by o result bytes part needed room (asked_cause ws (Encode o) result bytes g h c) r a b c

pub complete_is : (ws : List Text) (o : Options) (result : Status) (bytes : List ℕ) (head : WavHead) → HasCause ws result bytes → AsksEncode ws o → IsInput o bytes head
    → (result ≡ statuses.ReadFault → ⊥) → (result ≡ statuses.WriteFault → ⊥) → (result ≡ statuses.NoMemory → ⊥) → result ≡ statuses.Ok
complete_is ws o result bytes head h g r a b c = complete_by o result bytes head (asked_cause ws (Encode o) result bytes g h c) r a b c

-- ---- decode

-- unless the status line turned Ok into a fault, the answer is the status
same_status : (status result : Status) (whole : Bool) → result ≡ answer_of status whole → (result ≡ statuses.WriteFault → ⊥) → result ≡ status
same_status statuses.Ok result true e not = e
same_status statuses.Ok result false e not = absurd (not e)
same_status statuses.Usage result true e not = e
same_status statuses.Usage result false e not = e
same_status (statuses.BadWav kind place) result true e not = e
same_status (statuses.BadWav kind place) result false e not = e
same_status (statuses.RateTooLow part needed room) result true e not = e
same_status (statuses.RateTooLow part needed room) result false e not = e
same_status (statuses.BadStream frame fault) result true e not = e
same_status (statuses.BadStream frame fault) result false e not = e
same_status statuses.ReadFault result true e not = e
same_status statuses.ReadFault result false e not = e
same_status statuses.WriteFault result true e not = e
same_status statuses.WriteFault result false e not = e
same_status statuses.NoMemory result true e not = e
same_status statuses.NoMemory result false e not = e
same_status (statuses.TooLong most) result true e not = e
same_status (statuses.TooLong most) result false e not = e

-- what the status is unless something failed, the answer is
still_comes : (wanted status result : Status) (whole : Bool) → result ≡ answer_of status whole → ComesUnless wanted status → ComesUnless wanted result
still_comes wanted status result whole e comes a b c =
    let same = same_status status result whole e b in
    same ∙ comes (λ r. a (same ∙ r)) (λ w. b (same ∙ w)) (λ n. c (same ∙ n))

pub still_answers : (bytes : List ℕ) (status result : Status) (whole : Bool) → result ≡ answer_of status whole → AnswersStream bytes status → AnswersStream bytes result
still_answers bytes status result whole e s = record {
  decoded = λ frames is. still_comes statuses.Ok status result whole e (s.decoded frames is);
  bad = λ frame fault is. still_comes (statuses.BadStream frame fault) status result whole e (s.bad frame fault is);
  long = λ is. still_comes (statuses.TooLong limit) status result whole e (s.long is);
}

-- ---- all is done

encoded : (o : Options) (bytes : List ℕ) (old mid new : World) → mid.input ≡ new.input → mid.sinks.output ≡ new.sinks.output
    → Adds mid.sinks.report.bytes new.sinks.report.bytes (status_line statuses.Ok) → Encodes o bytes old mid → IsEncoded o bytes old new
encoded o bytes old mid new same_input same_output line e =
    record {
      head = e.head;
      input = e.input;
      left = sym (ap (λ (t : Told). t.bytes) same_input) ∙ e.left;
      stream = e.frames.stream;
      lines = e.frames.lines;
      is_stream = e.frames.is_stream;
      output = subst (λ (t : Told). Adds old.sinks.output.bytes t.bytes e.frames.stream) same_output e.frames.output;
      report = adds_both old.sinks.report.bytes mid.sinks.report.bytes new.sinks.report.bytes e.frames.lines (status_line statuses.Ok) e.frames.report line;
    }

decoded : (bytes : List ℕ) (old mid new : World) → mid.input ≡ new.input → mid.sinks.output ≡ new.sinks.output
    → Adds mid.sinks.report.bytes new.sinks.report.bytes (status_line statuses.Ok) → Decoded bytes old mid → IsDecoded bytes old new
decoded bytes old mid new same_input same_output line d =
    record {
      frames = d.frames;
      is_end = d.is_end;
      left = sym (ap (λ (t : Told). t.bytes) same_input) ∙ d.left;
      wav = d.added.wav;
      is_wav = d.added.is_wav;
      output = subst (λ (t : Told). Adds old.sinks.output.bytes t.bytes d.added.wav) same_output d.added.output;
      report = adds_both old.sinks.report.bytes mid.sinks.report.bytes new.sinks.report.bytes (lines_of d.frames) (status_line statuses.Ok) d.added.report line;
    }

generated : (seed frames : ℕ) (old mid new : World) → mid.sinks.output ≡ new.sinks.output → Adds mid.sinks.report.bytes new.sinks.report.bytes (status_line statuses.Ok)
    → IsGenerated seed frames old.sinks mid.sinks → IsSynthesised seed frames old new
generated seed frames old mid new same_output line s =
    record {
      stream = s.stream;
      readings = s.gs;
      best = s.best;
      bounded = s.bounded;
      made = s.made;
      all = s.all;
      output = subst (λ (t : Told). Adds old.sinks.output.bytes t.bytes s.stream) same_output s.output;
      report = adds_both old.sinks.report.bytes mid.sinks.report.bytes new.sinks.report.bytes (synth_line frames s.best s.bounded (sum_of s.gs)) (status_line statuses.Ok) s.report line;
    }

command_done : (c : Command) (bytes : List ℕ) (old mid new : World) → mid.input ≡ new.input → mid.sinks.output ≡ new.sinks.output
    → Adds mid.sinks.report.bytes new.sinks.report.bytes (status_line statuses.Ok) → CommandLeaves c statuses.Ok bytes old mid → CommandIsDone c bytes old new
command_done (Encode o) bytes old mid new i out line e = encoded o bytes old mid new i out line e
command_done Decode bytes old mid new i o line d = decoded bytes old mid new i o line d
command_done (Synth seed frames) bytes old mid new i o line s = generated seed frames old mid new o line s.1

all_done : (ws : List Text) (bytes : List ℕ) (old mid new : World) → mid.input ≡ new.input → mid.sinks.output ≡ new.sinks.output
    → Adds mid.sinks.report.bytes new.sinks.report.bytes (status_line statuses.Ok) → JobLeaves ws statuses.Ok bytes old mid → IsDone ws bytes old new
all_done ws bytes old mid new i o line (c, g, h) = (c, g, command_done c bytes old mid new i o line h)

pub is_done : (ws : List Text) (result : Status) (bytes : List ℕ) (old new : World) → RunLeaves ws result bytes old new → result ≡ statuses.Ok → IsDone ws bytes old new
is_done ws result bytes old new r e =
    let a = ok_answer r.status r.whole (sym r.answer ∙ e) in
    let mid : World = record new { sinks = record new.sinks { report = r.between } } in
    let job = subst (λ (s : Status). JobLeaves ws s bytes old mid) a.0 r.job in
    let line = subst (λ (s : Status). Tail r.whole r.between new.sinks.report (status_line s)) a.0 r.line in
    let whole = subst (λ (w : Bool). Tail w r.between new.sinks.report (status_line statuses.Ok)) a.1 line in
    all_done ws bytes old mid new refl refl whole job
