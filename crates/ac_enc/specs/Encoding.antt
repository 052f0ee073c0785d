-- What contracts see of an encoder.
use Rattle.std.specs.Prelude.{ℕ, List, ℤ, pos, replicate}
use Rattle.ac_words.specs.declared.meaning.Options.{Options}
use Rattle.ac_enc.specs.Layout.{Layout}

-- its options, the sampling code and the layout of its sound, how many frames it has made, and the last 256 samples of each of 6
-- channels
pub record Encoding : Type 0 where
  pub options : Options
  pub layout : Layout
  pub frames : ℕ
  pub last : List (List ℤ)

-- one that has made no frame: the samples before the first are 0 (A/52 8.2.3)
abbrev pub at_first : Options → Layout → Encoding
at_first o l = record { options = o; layout = l; frames = 0; last = replicate 6 (replicate 256 (pos 0)) }
