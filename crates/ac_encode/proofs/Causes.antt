-- What the cause of encode's answer says of its input.
use Rattle.std.proofs.Common.{◌≡◌, ℕ, List, refl, ap, ap₂}
use Rattle.ac_base.specs.declared.sizes.Part.{Part}
use Rattle.ac_riff.specs.declared.fault.WavKind.{WavKind}
use Rattle.ac_riff.specs.declared.head.WavHead.{WavHead}
use Rattle.ac_words.specs.declared.meaning.Options.{Options}
use Rattle.ac_status.specs.declared.status.Status.{Status}
use Rattle.ac_status.specs.declared.status.Status.TheVariants as statuses
use Rattle.ac_encode.specs.Encodes.{EncodeHasCause}
use Rattle.ac_encode.specs.Input.{IsInput, IsRefused, IsTooLong, IsRateTooLow}
use Rattle.ac_world.specs.Limit.{limit}
use Rattle.ac_encode.proofs.Inputs.{never_both, never_longer, never_refused, never_low, never_refused_low, never_longer_low, one_refusal, one_low}

pub refused_by : (o : Options) (result : Status) (bytes : List ℕ) (kind : WavKind) (place : ℕ) → EncodeHasCause o result bytes → IsRefused o bytes kind place
    → (result ≡ statuses.ReadFault → ⊥) → (result ≡ statuses.WriteFault → ⊥) → (result ≡ statuses.NoMemory → ⊥) → result ≡ statuses.BadWav kind place
refused_by o statuses.Ok bytes kind place h r a b c = absurd (never_both o bytes h.0 kind place h.1 r)
refused_by o statuses.Usage bytes kind place h r a b c = absurd h
refused_by o (statuses.BadWav other there) bytes kind place h r a b c = let e = one_refusal o bytes other kind there place h r in ap₂ (λ (k : WavKind) (n : ℕ). statuses.BadWav k n) e.0 e.1
refused_by o (statuses.RateTooLow which much little) bytes kind place h r a b c = absurd (never_refused_low o bytes which much little kind place h r)
refused_by o (statuses.BadStream frame fault) bytes kind place h r a b c = absurd h
refused_by o statuses.ReadFault bytes kind place h r a b c = absurd (a refl)
refused_by o statuses.WriteFault bytes kind place h r a b c = absurd (b refl)
refused_by o statuses.NoMemory bytes kind place h r a b c = absurd (c refl)
refused_by o (statuses.TooLong most) bytes kind place h r a b c = absurd (never_refused o bytes kind place r h.0)

pub too_long_by : (o : Options) (result : Status) (bytes : List ℕ) → EncodeHasCause o result bytes → IsTooLong o bytes
    → (result ≡ statuses.ReadFault → ⊥) → (result ≡ statuses.WriteFault → ⊥) → (result ≡ statuses.NoMemory → ⊥) → result ≡ statuses.TooLong limit
too_long_by o statuses.Ok bytes h r a b c = absurd (never_longer o bytes h.0 h.1 r)
too_long_by o statuses.Usage bytes h r a b c = absurd h
too_long_by o (statuses.BadWav other there) bytes h r a b c = absurd (never_refused o bytes other there h r)
too_long_by o (statuses.RateTooLow which much little) bytes h r a b c = absurd (never_longer_low o bytes which much little h r)
too_long_by o (statuses.BadStream frame fault) bytes h r a b c = absurd h
too_long_by o statuses.ReadFault bytes h r a b c = absurd (a refl)
too_long_by o statuses.WriteFault bytes h r a b c = absurd (b refl)
too_long_by o statuses.NoMemory bytes h r a b c = absurd (c refl)
too_long_by o (statuses.TooLong most) bytes h r a b c = ap (λ n. statuses.TooLong n) h.1

low_same : (which part : Part) (much little needed room : ℕ) → which ≡ part → much ≡ needed → little ≡ room → statuses.RateTooLow which much little ≡ statuses.RateTooLow part needed room
low_same which part much little needed room e f k = cc

pub too_low_by : (o : Options) (result : Status) (bytes : List ℕ) (part : Part) (needed room : ℕ) → EncodeHasCause o result bytes → IsRateTooLow o bytes part needed room
    → (result ≡ statuses.ReadFault → ⊥) → (result ≡ statuses.WriteFault → ⊥) → (result ≡ statuses.NoMemory → ⊥) → result ≡ statuses.RateTooLow part needed room
too_low_by o statuses.Ok bytes part needed room h r a b c = absurd (never_low o bytes part needed room h.0 r h.1)
too_low_by o statuses.Usage bytes part needed room h r a b c = absurd h
too_low_by o (statuses.BadWav other there) bytes part needed room h r a b c = absurd (never_refused_low o bytes part needed room other there r h)
too_low_by o (statuses.RateTooLow which much little) bytes part needed room h r a b c = let e = one_low o bytes which part much little needed room h r in low_same which part much little needed room e.0 e.1 e.2
too_low_by o (statuses.BadStream frame fault) bytes part needed room h r a b c = absurd h
too_low_by o statuses.ReadFault bytes part needed room h r a b c = absurd (a refl)
too_low_by o statuses.WriteFault bytes part needed room h r a b c = absurd (b refl)
too_low_by o statuses.NoMemory bytes part needed room h r a b c = absurd (c refl)
too_low_by o (statuses.TooLong most) bytes part needed room h r a b c = absurd (never_longer_low o bytes part needed room r h.0)

pub complete_by : (o : Options) (result : Status) (bytes : List ℕ) (head : WavHead) → EncodeHasCause o result bytes → IsInput o bytes head
    → (result ≡ statuses.ReadFault → ⊥) → (result ≡ statuses.WriteFault → ⊥) → (result ≡ statuses.NoMemory → ⊥) → result ≡ statuses.Ok
complete_by o statuses.Ok bytes head h r a b c = refl
complete_by o statuses.Usage bytes head h r a b c = absurd h
complete_by o (statuses.BadWav other there) bytes head h r a b c = absurd (never_both o bytes head other there r h)
complete_by o (statuses.RateTooLow which much little) bytes head h r a b c = absurd (never_low o bytes which much little head h r)
complete_by o (statuses.BadStream frame fault) bytes head h r a b c = absurd h
complete_by o statuses.ReadFault bytes head h r a b c = absurd (a refl)
complete_by o statuses.WriteFault bytes head h r a b c = absurd (b refl)
complete_by o statuses.NoMemory bytes head h r a b c = absurd (c refl)
complete_by o (statuses.TooLong most) bytes head h r a b c = absurd (never_longer o bytes head r h.0)
