-- What the answers of the code say of the words' meaning, which is this project's own.
use Rattle.std.specs.Prelude.{◌≡◌, List, [], codes}
use Rattle.ac_words.specs.Grammar.{Text, Meaning, encode, decode, synth, EncodePairs, SynthPairs, LastWords, Means}
use Rattle.ac_words.specs.declared.meaning.Command.{Command}
use Rattle.ac_words.specs.declared.meaning.Command.TheVariants.{Encode, Decode, Synth}
use Rattle.ac_words.specs.declared.meaning.Names.{Names}

-- the texts of three names
abbrev pub texts_of : Names → LastWords
texts_of n = record { from = n.from.now; to = n.to.now; report = n.report.now }

-- a command over three names
abbrev pub meaning_of : Command → LastWords → Meaning
meaning_of (Encode o) n = encode o n
meaning_of Decode n = decode n
meaning_of (Synth seed frames) n = synth seed frames n

-- the first word and those between it and the names are this command
abbrev pub AreCommand : Text → List Text → Command → Type 0
AreCommand word middle (Encode o) = (word ≡ codes "encode") × EncodePairs middle o
AreCommand word middle Decode = (word ≡ codes "decode") × (middle ≡ [])
AreCommand word middle (Synth seed frames) = (word ≡ codes "synth") × SynthPairs middle seed frames

-- the words give this command, with some names
abbrev pub GivesCommand : List Text → Command → Type 0
GivesCommand ws c = (n : LastWords) × Means ws (meaning_of c n)

-- the words give these names, with some command
abbrev pub GivesNames : List Text → LastWords → Type 0
GivesNames ws n = (c : Command) × Means ws (meaning_of c n)
