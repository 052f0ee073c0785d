-- What the grammar keeps of a command's options, whatever the words: their bounds.
use Rattle.std.specs.Prelude.{◌+◌, ◌^◌, ◌<◌, ◌≤◌}
use Rattle.std.specs.Option.{ForSome}
use Rattle.ac_base.specs.Rates.{IsRate}
use Rattle.ac_words.specs.declared.meaning.Command.{Command}
use Rattle.ac_words.specs.declared.meaning.Command.TheVariants.{Encode, Decode, Synth}
use Rattle.ac_words.specs.declared.meaning.Couple.{Couple}
use Rattle.ac_words.specs.declared.meaning.Couple.TheVariants.{Off, Auto, Bins}
use Rattle.ac_words.specs.declared.meaning.Options.{Options}

-- cplbegf and cplendf of a coupling, where they are given (A/52 5.4.3.11, 5.4.3.12)
abbrev pub IsRange : Couple → Type 0
IsRange Off = Unit {0}
IsRange Auto = Unit {0}
IsRange (Bins begin end) = (begin ≤ 15) × (end ≤ 15) × (begin ≤ end + 2)

-- a rate of A/52 Table 5.18, at most 10,000,000 nodes of the search (this project's own), and chbwcod at most 60 (A/52 5.4.3.24)
pub record AreOptions (o : Options) : Type 0 where
  pub rate : IsRate o.rate
  pub nodes : o.nodes ≤ 10000000
  pub bandwidth : ForSome o.bw (λ bw. bw ≤ 60)
  pub coupling : IsRange o.couple

-- the options of the command are within their bounds: a seed below 2^64, and 1 to 200 frames of generated sound
abbrev pub IsWithinBounds : Command → Type 0
IsWithinBounds (Encode o) = AreOptions o
IsWithinBounds Decode = Unit {0}
IsWithinBounds (Synth seed frames) = (seed < 2 ^ 64) × (1 ≤ frames) × (frames ≤ 200)
