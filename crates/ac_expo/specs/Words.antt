-- What contracts see of a strategy word, and words by number (A/52 5.4.3.21 to 5.4.3.23).
use Rattle.std.specs.Prelude.{◌≡◌, ℕ, ◌+◌, ◌/◌, ◌%◌, ◌<◌, List, [], ◌∷◌}
use Rattle.ac_base.specs.Words.{IsWord}
use Rattle.ac_expo.specs.declared.word.Word.TheInside.{Inside}

-- what contracts see of a word
abbrev pub codes_of : Inside → List ℕ
codes_of a = a.codes

-- the code keeps six codes of a word
abbrev pub IsCoded : Inside → Type 0
IsCoded a = IsWord a.codes

-- and back
abbrev pub inside_of : List ℕ → Inside
inside_of codes = record { codes = codes }

-- ---- words by number (this project's own)

-- the first code less 1, then the others, as a number in base 4
abbrev pub word_list : ℕ → List ℕ
word_list i = (i / 1024 + 1) ∷ i / 256 % 4 ∷ i / 64 % 4 ∷ i / 16 % 4 ∷ i / 4 % 4 ∷ i % 4 ∷ []

-- no two numbers have one word: a law of these definitions
abbrev pub EachNumberIsOneWord : Type 0
EachNumberIsOneWord = (i j : ℕ) → i < 3072 → j < 3072 → word_list i ≡ word_list j → i ≡ j

-- each word has a number: a law of these definitions
abbrev pub EachWordHasANumber : Type 0
EachWordHasANumber = (codes : List ℕ) → IsWord codes → (i : ℕ) × ((i < 3072) × (word_list i ≡ codes))
