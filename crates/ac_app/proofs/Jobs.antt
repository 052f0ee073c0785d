-- From the words and the command to the job.
use Rattle.std.proofs.Common.{◌≡◌, ℕ, List, refl, subst, inr}
use Rattle.ac_words.specs.Grammar.{Text, InGrammar, LastWords}
use Rattle.ac_words.specs.Asked.{GivesCommand, meaning_of}
use Rattle.ac_words.proofs.Split.{one_meaning}
use Rattle.ac_words.specs.declared.meaning.Command.{Command}
use Rattle.ac_words.specs.declared.meaning.Command.TheVariants.{Encode, Decode, Synth}
use Rattle.ac_words.specs.declared.meaning.Options.{Options}
use Rattle.ac_status.specs.declared.status.Status.{Status}
use Rattle.ac_status.specs.declared.status.Status.TheVariants as statuses
use Rattle.ac_world.specs.World.{World}
use Rattle.ac_app.specs.Decoded.{AnswersStream}
use Rattle.ac_app.specs.Run.{AsksEncode, CommandLeaves, CommandHasCause, JobLeaves, HasCause}

pub in_grammar : (ws : List Text) (c : Command) → GivesCommand ws c → InGrammar ws
in_grammar ws c h = (meaning_of c h.0, h.1)

-- ---- the words ask for one command

same_command : (c d : Command) (n m : LastWords) → meaning_of c n ≡ meaning_of d m → c ≡ d
same_command (Encode o) (Encode p) n m e = cc
same_command (Encode o) Decode n m e = absurd cc
same_command (Encode o) (Synth seed frames) n m e = absurd cc
same_command Decode (Encode p) n m e = absurd cc
same_command Decode Decode n m e = refl
same_command Decode (Synth seed frames) n m e = absurd cc
same_command (Synth seed frames) (Encode p) n m e = absurd cc
same_command (Synth seed frames) Decode n m e = absurd cc
same_command (Synth seed frames) (Synth other count) n m e = cc

pub one_command : (ws : List Text) (c d : Command) → GivesCommand ws c → GivesCommand ws d → c ≡ d
one_command ws c d a b = same_command c d a.0 b.0 (one_meaning ws (meaning_of c a.0) (meaning_of d b.0) a.1 b.1)

same_options : (o p : Options) → Encode o ≡ Encode p → o ≡ p
same_options o p e = cc

pub one_asked : (ws : List Text) (o p : Options) → AsksEncode ws o → AsksEncode ws p → o ≡ p
one_asked ws o p a b = same_options o p (one_command ws (Encode o) (Encode p) a b)

-- ---- the job

pub job_leaves : (ws : List Text) (c : Command) (status : Status) (bytes : List ℕ) (old new : World) → GivesCommand ws c → (status ≡ statuses.Usage → ⊥) → CommandLeaves c status bytes old new → JobLeaves ws status bytes old new
job_leaves ws c statuses.Ok bytes old new g not l = (c, g, l)
job_leaves ws c statuses.Usage bytes old new g not l = absurd (not refl)
job_leaves ws c (statuses.BadWav kind place) bytes old new g not l = (c, g, l)
job_leaves ws c (statuses.RateTooLow part needed room) bytes old new g not l = (c, g, l)
job_leaves ws c (statuses.BadStream frame fault) bytes old new g not l = (c, g, l)
job_leaves ws c statuses.ReadFault bytes old new g not l = (c, g, l)
job_leaves ws c statuses.WriteFault bytes old new g not l = (c, g, l)
job_leaves ws c statuses.NoMemory bytes old new g not l = inr (c, g, l)
job_leaves ws c (statuses.TooLong most) bytes old new g not l = (c, g, l)

pub job_cause : (ws : List Text) (c : Command) (status : Status) (bytes : List ℕ) → GivesCommand ws c → (status ≡ statuses.Usage → ⊥) → CommandHasCause c status bytes → HasCause ws status bytes
job_cause ws c statuses.Ok bytes g not l = (c, g, l)
job_cause ws c statuses.Usage bytes g not l = absurd (not refl)
job_cause ws c (statuses.BadWav kind place) bytes g not l = (c, g, l)
job_cause ws c (statuses.RateTooLow part needed room) bytes g not l = (c, g, l)
job_cause ws c (statuses.BadStream frame fault) bytes g not l = (c, g, l)
job_cause ws c statuses.ReadFault bytes g not l = (c, g, l)
job_cause ws c statuses.WriteFault bytes g not l = (c, g, l)
job_cause ws c statuses.NoMemory bytes g not l = tt
job_cause ws c (statuses.TooLong most) bytes g not l = (c, g, l)

-- what is the cause of an answer of a command is that of the command that the words ask for
of_asked : (ws : List Text) (c d : Command) (status : Status) (bytes : List ℕ) → GivesCommand ws c → GivesCommand ws d → CommandHasCause d status bytes → CommandHasCause c status bytes
of_asked ws c d status bytes g h s = subst (λ (a : Command). CommandHasCause a status bytes) (one_command ws d c h g) s

pub asked_cause : (ws : List Text) (c : Command) (status : Status) (bytes : List ℕ) → GivesCommand ws c → HasCause ws status bytes → (status ≡ statuses.NoMemory → ⊥) → CommandHasCause c status bytes
asked_cause ws c statuses.Ok bytes g h not = of_asked ws c h.0 statuses.Ok bytes g h.1 h.2
asked_cause ws c statuses.Usage bytes g h not = absurd (h (in_grammar ws c g))
asked_cause ws c (statuses.BadWav kind place) bytes g h not = of_asked ws c h.0 (statuses.BadWav kind place) bytes g h.1 h.2
asked_cause ws c (statuses.RateTooLow part needed room) bytes g h not = of_asked ws c h.0 (statuses.RateTooLow part needed room) bytes g h.1 h.2
asked_cause ws c (statuses.BadStream frame fault) bytes g h not = of_asked ws c h.0 (statuses.BadStream frame fault) bytes g h.1 h.2
asked_cause ws c statuses.ReadFault bytes g h not = of_asked ws c h.0 statuses.ReadFault bytes g h.1 h.2
asked_cause ws c statuses.WriteFault bytes g h not = of_asked ws c h.0 statuses.WriteFault bytes g h.1 h.2
asked_cause ws c statuses.NoMemory bytes g h not = absurd (not refl)
asked_cause ws c (statuses.TooLong most) bytes g h not = of_asked ws c h.0 (statuses.TooLong most) bytes g h.1 h.2

-- where memory was wanting nothing is said of a stream
pub wants_memory : (bytes : List ℕ) → AnswersStream bytes statuses.NoMemory
wants_memory bytes = record {
  decoded = λ frames is a b c. absurd (c refl);
  bad = λ frame fault is a b c. absurd (c refl);
  long = λ is a b c. absurd (c refl);
}
