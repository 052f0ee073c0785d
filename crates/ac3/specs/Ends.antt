-- What the program does, by how it ends.
use Rattle.std.specs.Prelude.{◌≡◌, ◌⊎◌, ℕ, ◌+◌, List, [], ◌∷◌, ◌++◌, Option, Some}
use Rattle.ac_io.specs.Within.{TakesAtMost}
use Rattle.ac_words.specs.Grammar.{Text, LastWords, InGrammar}
use Rattle.ac_words.specs.Asked.{GivesNames}
use Rattle.ac_words.specs.declared.fault.WordsFault.{WordsFault}
use Rattle.ac_words.specs.declared.fault.WordsFault.TheVariants.{Usage, NoMemory}
use Rattle.ac_world.specs.Limit.{limit}
use Rattle.ac_status.specs.Lines.{code_of, status_line}
use Rattle.ac_status.specs.Rises.{RoseFor}
use Rattle.ac_app.specs.Run.{HasCause, RunLeaves, IsDone}
use Rattle.ac_world.specs.World.{told, World, NeverFalls}
use Rattle.ac_status.specs.declared.status.Status.{Status}
use Rattle.ac_status.specs.declared.status.Status.TheVariants.{Ok, WriteFault}
use Rattle.ac3.specs.Codes.{open_fault, open_fault_line, status_of_words}
use Rattle.ac3.specs.Deeds.{Deed, unsaid, Did, told_report, AllGiven, Stopped}
use Rattle.ac3.specs.declared.perform.Things.{Things}
use Rattle.ac3.specs.declared.perform.Ended.{Ended}
use Rattle.ac3.specs.declared.perform.Ended.TheVariants.{Ran, OpenFault, NoWords, Unsaid}

-- the exit code of an end
abbrev pub code_of_end : {S O N : Type 0} → Ended S O N → ℕ
code_of_end (Ran status _) = code_of status
code_of_end OpenFault = open_fault
code_of_end (NoWords fault) = code_of (status_of_words fault)
code_of_end Unsaid = code_of WriteFault

-- what the three things tell, each by what its trait tells of it
abbrev pub world_of : {S O N : Type 0} → (S → Option (List ℕ)) → (S → ℕ) → (O → Option (List ℕ)) → (O → ℕ)
    → (N → Option (List ℕ)) → (N → ℕ) → Things S O N → World
world_of left input_faults taken output_faults noted report_faults t = record {
  input = told left input_faults t.input;
  sinks = record { output = told taken output_faults t.output; report = told_report noted report_faults t.report };
}

-- P where a run ended with this status and left these things
abbrev pub IfRan : {S O N : Type 0} → Ended S O N → (Status → Things S O N → Type 0) → Type 0
IfRan (Ran status things) P = P status things
IfRan OpenFault P = Unit {0}
IfRan (NoWords _) P = Unit {0}
IfRan Unsaid P = Unit {0}

abbrev pub IfOpenFault : {S O N : Type 0} → Ended S O N → Type 0 → Type 0
IfOpenFault (Ran _ _) P = Unit {0}
IfOpenFault OpenFault P = P
IfOpenFault (NoWords _) P = Unit {0}
IfOpenFault Unsaid P = Unit {0}

abbrev pub IfNoWords : {S O N : Type 0} → Ended S O N → (WordsFault → Type 0) → Type 0
IfNoWords (Ran _ _) P = Unit {0}
IfNoWords OpenFault P = Unit {0}
IfNoWords (NoWords fault) P = P fault
IfNoWords Unsaid P = Unit {0}

abbrev pub IfUnsaid : {S O N : Type 0} → Ended S O N → Type 0 → Type 0
IfUnsaid (Ran _ _) P = Unit {0}
IfUnsaid OpenFault P = Unit {0}
IfUnsaid (NoWords _) P = Unit {0}
IfUnsaid Unsaid P = P

-- the words were run, with this answer, on things that told the first before and tell the second now
pub record Leaves (ws : List Text) (status : Status) (old new : World) : Type 0 where
  pub told : (bytes : List ℕ) → old.input.bytes ≡ Some bytes → RunLeaves ws status bytes old new
  pub ok : (bytes : List ℕ) → old.input.bytes ≡ Some bytes → status ≡ Ok → IsDone ws bytes old new
  pub cause : (bytes : List ℕ) → old.input.bytes ≡ Some bytes → HasCause ws status bytes
  pub most_read : (bytes : List ℕ) → old.input.bytes ≡ Some bytes → TakesAtMost bytes (limit + 1) new.input.bytes
  pub rose : RoseFor status old new
  pub never_falls : NeverFalls old new

-- ---- the four ends

-- the words name three things, no two of which are one file; they were asked for and given in order, and the words were run on them
pub record RunsOn (ws : List Text) (status : Status) (old new : Option (List Deed)) (now : World) : Type 0 where
  pub names : LastWords
  pub named : GivesNames ws names
  pub before : World
  pub deeds : List Deed
  pub all : AllGiven names before deeds
  pub did : Did old new deeds
  pub leaves : Leaves ws status before now

-- the words name three things, of which two are one file or one was refused, and then this was done
pub record StopsAt (ws : List Text) (last : Deed) (old new : Option (List Deed)) : Type 0 where
  pub names : LastWords
  pub named : GivesNames ws names
  pub deeds : List Deed
  pub stopped : Stopped names deeds
  pub did : Did old new (deeds ++ last ∷ [])

-- the words are outside the grammar: nothing was asked for, and only this was done
pub record IsOutside (ws : List Text) (last : Deed) (old new : Option (List Deed)) : Type 0 where
  pub no_meaning : InGrammar ws → ⊥
  pub did : Did old new (last ∷ [])

-- there are no words to follow: they are outside the grammar, or memory to read them was wanting. Nothing was asked for, and only this was done
abbrev pub HasNoWords : List Text → WordsFault → Deed → Option (List Deed) → Option (List Deed) → Type 0
HasNoWords ws Usage last old new = IsOutside ws last old new
HasNoWords ws NoMemory last old new = Did old new (last ∷ [])

-- the line of an open fault, or why there are no words, couldn't be printed whole
abbrev pub HasUnsaid : List Text → Option (List Deed) → Option (List Deed) → Type 0
HasUnsaid ws old new = StopsAt ws (unsaid open_fault_line) old new
    ⊎ ((fault : WordsFault) × HasNoWords ws fault (unsaid (status_line (status_of_words fault))) old new)
