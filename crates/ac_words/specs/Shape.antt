-- The shape of words that are pairs, and the pairs of such words: this project's own, as all of the words.
use Rattle.std.specs.Prelude.{Bool, List, [], ◌∷◌, ◌&&◌, not, true, false, drop}
use Rattle.std.specs.List.{list_any}
use Rattle.std.specs.Str.{bytes_eq}
use Rattle.std.specs.Str.Parse.{starts_with_minus}
use Rattle.ac_words.specs.Grammar.{Known, Text, Pair}

-- the word is one of these options, with its two hyphens
abbrev pub is_option : List Known → Text → Bool
is_option known word = list_any (λ option. bytes_eq word (45 ∷ 45 ∷ option.0)) known

-- the words go two by two: one of these options, and a value that doesn't begin with a hyphen
abbrev pub has_shape : List Known → List Text → Bool
has_shape known [] = true
has_shape known (word ∷ []) = false
has_shape known (word ∷ value ∷ rest) = is_option known word && (not (starts_with_minus value) && has_shape known rest)

-- the pairs of words of this shape
abbrev pub pairs_of : List Text → List Pair
pairs_of [] = []
pairs_of (word ∷ []) = []
pairs_of (word ∷ value ∷ rest) = (drop 2 word, value) ∷ pairs_of rest
