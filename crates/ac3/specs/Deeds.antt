-- What the program asks for and says, in order.
use Rattle.std.specs.Prelude.{◌≡◌, ℕ, Bool, true, false, not, ◌&&◌, ◌||◌, List, [], ◌∷◌, ◌++◌, Option, Some, None, Result, Ok, Err, codes, if◌then◌else◌}
use Rattle.std.specs.Str.{bytes_eq}
use Rattle.ac_words.specs.Grammar.{Text, LastWords}
use Rattle.ac_world.specs.World.{Told, told, World}
use Rattle.ac3.specs.declared.desk.Sharing.{Sharing}
use Rattle.ac3.specs.declared.desk.Sharing.TheVariants.{Free, OneFile, Apart}
use Rattle.ac3.specs.declared.perform.Answers.{Answers}

-- what can be asked for
pub data Thing : Type 0 where
  standard_input : Thing
  file_to_read : Text → Thing
  standard_output : Thing
  output_file : Text → Thing
  report_file : Text → Thing

-- a thing was asked for and given, and tells this; or it was refused; or it was asked how two stand to each other;
-- or a text was printed whole, or not
pub data Deed : Type 0 where
  given : Thing → Told → Deed
  refused : Thing → Deed
  compared : Thing → Thing → Sharing → Deed
  said : Text → Deed
  unsaid : Text → Deed

-- what asking for a thing has come to
abbrev pub asked : {A E : Type 0} → Thing → (A → Option (List ℕ)) → (A → ℕ) → Result A E → Deed
asked thing bytes faults (Ok x) = given thing (told bytes faults x)
asked thing bytes faults (Err _) = refused thing

-- what printing a text has come to
abbrev pub printed : {A E : Type 0} → Text → Result A E → Deed
printed text (Ok _) = said text
printed text (Err _) = unsaid text

-- where the deeds are still told, they were told before, and exactly these came behind the old ones
abbrev pub Did : Option (List Deed) → Option (List Deed) → List Deed → Type 0
Did old None deeds = Unit {0}
Did None (Some new) deeds = ⊥
Did (Some old) (Some new) deeds = new ≡ old ++ deeds

-- ---- the three names

abbrev pub is_dash : Text → Bool
is_dash name = bytes_eq name (codes "-")

abbrev pub input_of : Text → Thing
input_of name = (if is_dash name then standard_input else file_to_read name)

abbrev pub output_of : Text → Thing
output_of name = (if is_dash name then standard_output else output_file name)

-- ---- two of them that mean one file

-- how each two of the three stand to each other was asked, and answered so; `-` names no report
abbrev pub all_compared : LastWords → Answers → List Deed
all_compared n a = compared (input_of n.from) (output_of n.to) a.input_output ∷ (if is_dash n.report then []
    else compared (input_of n.from) (report_file n.report) a.input_report
    ∷ compared (output_of n.to) (report_file n.report) a.output_report ∷ [])

-- two words mean one file: it was answered so, or they are the same name, and no use of it is free. `-` names no file
abbrev pub means_one : Text → Text → Sharing → Bool
means_one a b Free = false
means_one a b OneFile = true
means_one a b Apart = not (is_dash a) && bytes_eq a b

-- two of the three mean one file
abbrev pub is_shared : LastWords → Answers → Bool
is_shared n a = means_one n.from n.to a.input_output
    || (not (is_dash n.report) && (means_one n.from n.report a.input_report || means_one n.to n.report a.output_report))

-- ---- all three given, or one refused

-- a report that is nowhere tells nothing
abbrev pub told_report : {N : Type 0} → (N → Option (List ℕ)) → (N → ℕ) → Option N → Told
told_report held faults None = record { bytes = None; faults = 0 }
told_report held faults (Some report) = told held faults report

-- `-` names no report
abbrev pub report_given : Text → Told → List Deed
report_given name t = (if is_dash name then [] else given (report_file name) t ∷ [])

-- the input, the output and the report were asked for and given, in this order
abbrev pub all_given : LastWords → World → List Deed
all_given n w = given (input_of n.from) w.input ∷ given (output_of n.to) w.sinks.output ∷ report_given n.report w.sinks.report

-- they were compared, no two are one file, and the three were asked for and given
pub record AllGiven (n : LastWords) (w : World) (deeds : List Deed) : Type 0 where
  pub answers : Answers
  pub apart : is_shared n answers ≡ false
  pub same : deeds ≡ all_compared n answers ++ all_given n w

-- one of the three was refused, and nothing behind it asked for
pub data Refused (n : LastWords) : List Deed → Type 0 where
  no_input : Refused n (refused (input_of n.from) ∷ [])
  no_output : (i : Told) → Refused n (given (input_of n.from) i ∷ refused (output_of n.to) ∷ [])
  no_report : (i o : Told) → is_dash n.report ≡ false
      → Refused n (given (input_of n.from) i ∷ given (output_of n.to) o ∷ refused (report_file n.report) ∷ [])

-- two of the three are one file, and nothing was asked for; or no two are, and one was refused
pub data Stopped (n : LastWords) : List Deed → Type 0 where
  one_file : (a : Answers) → is_shared n a ≡ true → Stopped n (all_compared n a)
  not_given : (a : Answers) (deeds : List Deed) → is_shared n a ≡ false → Refused n deeds → Stopped n (all_compared n a ++ deeds)
