-- From the head and the frames to the command encode.
use Rattle.std.proofs.Common.{◌≡◌, ℕ, List, Option, refl, ap, sym, subst, ◌∙◌, arith, inl, inr, Result, Ok, Err}
use Rattle.std.specs.Prelude.{MatchResult}
use Rattle.ac_enc.specs.Encoding.{Encoding, at_first}
use Rattle.ac_enc.specs.Layout.{Layout}
use Rattle.ac_enc.specs.declared.fault.NewFault.{NewFault}
use Rattle.ac_enc.specs.declared.fault.NewFault.TheVariants as new_faults
use Rattle.ac_io.specs.Within.{TakesAtMost}
use Rattle.ac_riff.specs.declared.fault.WavFault.{WavFault}
use Rattle.ac_riff.specs.declared.fault.WavFault.TheVariants as wav
use Rattle.ac_riff.specs.declared.head.WavHead.{WavHead}
use Rattle.ac_riff.specs.Form.{IsHead}
use Rattle.ac_riff.specs.Refusal.{HeadRead}
use Rattle.ac_riff.proofs.Endings as heads
use Rattle.ac_riff.proofs.Fronts.{taken_within}
use Rattle.ac_words.specs.declared.meaning.Options.{Options}
use Rattle.ac_encode.specs.declared.frames.Stop.{Stop}
use Rattle.ac_encode.specs.declared.frames.Stop.TheVariants as stops
use Rattle.ac_status.specs.declared.status.Status.{Status}
use Rattle.ac_encode.specs.Input.{Suits}
use Rattle.ac_world.specs.Limit.{limit}
use Rattle.ac_encode.specs.Loop.{StopLeaves, unread_status, denied_status, ended_status}
use Rattle.ac_encode.specs.Encodes.{Encodes, StopsBefore, StopsIn, Breaks, EncodeLeaves, EncodeHasCause}
use Rattle.ac_world.specs.World.{Told, Sinks, World}

-- a refusal of the head
stops_so : (o : Options) (fault : WavFault) (bytes : List ℕ) (old new : World) → StopsBefore bytes old new → EncodeLeaves o (unread_status fault) bytes old new
stops_so o (wav.Bad kind place) bytes old new s = inl s
stops_so o wav.ReadFault bytes old new s = inl s
stops_so o wav.TooLong bytes old new s = inl s

pub stops_before : (o : Options) (fault : WavFault) (status : Status) (bytes : List ℕ) (old new : World) → status ≡ unread_status fault → StopsBefore bytes old new → EncodeLeaves o status bytes old new
stops_before o fault status bytes old new e s = subst (λ (t : Status). EncodeLeaves o t bytes old new) (sym e) (stops_so o fault bytes old new s)

-- where the source stands behind the head, no byte of the data was taken
pub untaken : (bytes : List ℕ) (head : WavHead) (left : Option (List ℕ)) → HeadRead bytes limit head left → (other : WavHead) → IsHead bytes other → TakesAtMost bytes other.taken left
untaken bytes head left h other is =
    let same = ap (λ (w : WavHead). w.taken) (heads.one_head bytes head other h.is is) in
    subst (TakesAtMost bytes other.taken) (sym h.left_is) (head.taken, omega (arith, same), taken_within bytes head h.is, refl)

-- there is no encoder
denies_so : (o : Options) (fault : NewFault) (bytes : List ℕ) (head : WavHead) (old new : World) → HeadRead bytes limit head new.input.bytes → StopsBefore bytes old new
    → EncodeLeaves o (denied_status fault) bytes old new
denies_so o (new_faults.RateTooLow part needed room) bytes head old new h s =
    record { head = head; begins = h.is; stands = record { within = taken_within bytes head h.is; left_is = h.left_is }; before = s }
denies_so o new_faults.NoMemory bytes head old new h s = s

pub denies : (o : Options) (fault : NewFault) (status : Status) (bytes : List ℕ) (head : WavHead) (old new : World) → status ≡ denied_status fault
    → HeadRead bytes limit head new.input.bytes → StopsBefore bytes old new → EncodeLeaves o status bytes old new
denies o fault status bytes head old new e h s = subst (λ (t : Status). EncodeLeaves o t bytes old new) (sym e) (denies_so o fault bytes head old new h s)

-- what the input told before its head was read is all that differs
abbrev with : Told → Sinks → World
with input sinks = record { input = input; sinks = sinks }

encodes_from : (o : Options) (bytes : List ℕ) (a b : Told) (s : Sinks) (new : World) → Encodes o bytes (with b s) new → Encodes o bytes (with a s) new
encodes_from o bytes a b s new e = record { head = e.head; input = e.input; left = e.left; frames = e.frames }

in_from : (o : Options) (bytes : List ℕ) (a b : Told) (s : Sinks) (new : World) → StopsIn o bytes (with b s) new → StopsIn o bytes (with a s) new
in_from o bytes a b s new e = record { head = e.head; begun = e.begun; count = e.count; taken = e.taken; added = e.added }

breaks_from : (o : Options) (bytes : List ℕ) (a b : Told) (s : Sinks) (new : World) → Breaks o bytes (with b s) new → Breaks o bytes (with a s) new
breaks_from o bytes a b s new e = record { head = e.head; begun = e.begun; broken = e.broken; rose = e.rose; added = e.added; fewer = e.fewer; left = e.left }

-- a refusal of the samples
stops_in : (o : Options) (fault : WavFault) (bytes : List ℕ) (a b : Told) (s : Sinks) (new : World) → StopLeaves o (stops.Input fault) bytes (with b s) new → EncodeLeaves o (unread_status fault) bytes (with a s) new
stops_in o (wav.Bad kind place) bytes a b s new e = inr (e.1, in_from o bytes a b s new e.2)
stops_in o wav.ReadFault bytes a b s new e = inr (in_from o bytes a b s new e)
stops_in o wav.TooLong bytes a b s new e = inr (e.1, in_from o bytes a b s new e.2)

stop_cause : (o : Options) (fault : WavFault) (bytes : List ℕ) (old new : World) → StopLeaves o (stops.Input fault) bytes old new → EncodeHasCause o (unread_status fault) bytes
stop_cause o (wav.Bad kind place) bytes old new s = s.0
stop_cause o wav.ReadFault bytes old new s = tt
stop_cause o wav.TooLong bytes old new s = (s.0, refl)

-- the end of the frames is that of the command
leaves_so : (o : Options) (end : Result (Unit {0}) Stop) (bytes : List ℕ) (a b : Told) (s : Sinks) (new : World)
    → MatchResult end (λ _. Encodes o bytes (with b s) new) (λ stop. StopLeaves o stop bytes (with b s) new) → EncodeLeaves o (ended_status end) bytes (with a s) new
leaves_so o (Ok _) bytes a b s new e = encodes_from o bytes a b s new e
leaves_so o (Err (stops.Input fault)) bytes a b s new e = stops_in o fault bytes a b s new e
leaves_so o (Err (stops.Sink broken)) bytes a b s new e = breaks_from o bytes a b s new e

-- ---- the encoder that was made

-- it stands at its first frame
pub at_first_by : (o : Options) (l : Layout) (e : Encoding) → e ≡ at_first o l → e ≡ at_first e.options l
at_first_by o l e is = is ∙ ap (λ (p : Options). at_first p l) (sym (ap (λ (d : Encoding). d.options) is))

pub suits_by : (o : Options) (l : Layout) (head : WavHead) (e : Encoding) → e ≡ at_first o l → Suits o head → Suits e.options head
suits_by o l head e is suits = subst (λ (p : Options). Suits p head) (sym (ap (λ (d : Encoding). d.options) is)) suits

-- and has the options that it was made with
pub by_options : (o : Options) (l : Layout) (e : Encoding) (end : Result (Unit {0}) Stop) (bytes : List ℕ) (old new : World) → e ≡ at_first o l
    → MatchResult end (λ _. Encodes e.options bytes old new) (λ stop. StopLeaves e.options stop bytes old new)
    → MatchResult end (λ _. Encodes o bytes old new) (λ stop. StopLeaves o stop bytes old new)
by_options o l e end bytes old new is told =
    subst (λ (p : Options). MatchResult end (λ _. Encodes p bytes old new) (λ stop. StopLeaves p stop bytes old new)) (ap (λ (d : Encoding). d.options) is) told

-- so has its cause
pub cause_by : (o : Options) (l : Layout) (e : Encoding) (status : Status) (bytes : List ℕ) → e ≡ at_first o l → EncodeHasCause e.options status bytes → EncodeHasCause o status bytes
cause_by o l e status bytes is cause = subst (λ (p : Options). EncodeHasCause p status bytes) (ap (λ (d : Encoding). d.options) is) cause

-- ---- the end

pub ended_leaves : (o : Options) (end : Result (Unit {0}) Stop) (status : Status) (bytes : List ℕ) (a b : Told) (s : Sinks) (new : World) → status ≡ ended_status end
    → MatchResult end (λ _. Encodes o bytes (with b s) new) (λ stop. StopLeaves o stop bytes (with b s) new) → EncodeLeaves o status bytes (with a s) new
ended_leaves o end status bytes a b s new is e = subst (λ (t : Status). EncodeLeaves o t bytes (with a s) new) (sym is) (leaves_so o end bytes a b s new e)

pub ended_cause : (o : Options) (end : Result (Unit {0}) Stop) (bytes : List ℕ) (old new : World)
    → MatchResult end (λ _. Encodes o bytes old new) (λ stop. StopLeaves o stop bytes old new) → EncodeHasCause o (ended_status end) bytes
ended_cause o (Ok _) bytes old new s = (s.head, s.input)
ended_cause o (Err (stops.Input fault)) bytes old new s = stop_cause o fault bytes old new s
ended_cause o (Err (stops.Sink broken)) bytes old new s = (s.head, s.begun)
