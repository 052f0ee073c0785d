-- The words of a command line, as a relation between the words and what they mean:
-- the command, then pairs of an option and its value, then the names of the input, the output and the report.
-- All of it is this project's own but the rates, which are those of A/52 Table 5.18.
use Rattle.std.specs.Fmt.{decimal}
use Rattle.std.specs.List.{list_all, list_any}
use Rattle.std.specs.Prelude.{◌≡◌, ◌+◌, ◌≤◌, ℕ, Bool, not, true, false, nat_lt, ◌||◌, ◌&&◌, List, [], ◌∷◌, ◌++◌, length, Option, Some, None, find, option_map, MatchOption, IsTrue, codes}
use Rattle.std.specs.Str.{bytes_eq}
use Rattle.std.specs.Str.Parse.{starts_with_minus}
use Rattle.ac_base.specs.Rates.{is_rate}
use Rattle.ac_words.specs.declared.meaning.Couple.{Couple}
use Rattle.ac_words.specs.declared.meaning.Couple.TheVariants.{Off, Auto, Bins}
use Rattle.ac_words.specs.declared.meaning.Options.{Options}

-- the bytes of a word
abbrev pub Text : Type 0
Text = List ℕ

-- ---- pairs

-- an option's name, without its two hyphens, and its value
abbrev pub Pair : Type 0
Pair = Text × Text

-- the words of the pairs
abbrev pub spelled : List Pair → List Text
spelled [] = []
spelled (p ∷ ps) = (codes "--" ++ p.0) ∷ p.1 ∷ spelled ps

-- some pair has this name
abbrev pub has_name : Text → List Pair → Bool
has_name name = list_any (λ p. bytes_eq p.0 name)

-- no pair has a name that stands in `seen` or before it
abbrev pub is_fresh : List Pair → List Pair → Bool
is_fresh seen [] = true
is_fresh seen (p ∷ ps) = not (has_name p.0 seen) && is_fresh (seen ++ p ∷ []) ps

-- no name stands twice
abbrev pub none_twice : List Pair → Bool
none_twice ps = is_fresh [] ps

-- the value of the first pair of this name
abbrev pub value_in : Text → List Pair → Option Text
value_in name ps = option_map (λ p. p.1) (find (λ p. bytes_eq p.0 name) ps)

-- an option's name, and whether it has to be given
abbrev pub Known : Type 0
Known = Text × Bool

-- the name is one of these options
abbrev pub is_known : List Known → Text → Bool
is_known known name = list_any (λ option. bytes_eq name option.0) known

-- each pair's name is one of these options
abbrev pub all_known : List Known → List Pair → Bool
all_known known = list_all (λ p. is_known known p.0)

-- these words are the pairs, each with one of these options, and none twice
pub record ArePairs (known : List Known) (ws : List Text) (ps : List Pair) : Type 0 where
  pub words : ws ≡ spelled ps
  pub names : all_known known ps ≡ true
  pub once : none_twice ps ≡ true

-- ---- the options of encode

abbrev pub encode_known : List Known
encode_known = (codes "rate", true) ∷ (codes "nodes", false) ∷ (codes "bw", false) ∷ (codes "couple", false) ∷ []

-- the text is a rate of A/52 Table 5.18 in decimal digits, without a sign or a leading zero; a rate is required
abbrev pub RateOf : Option Text → ℕ → Type 0
RateOf value rate = MatchOption value ⊥ (λ text. (text ≡ decimal rate) × IsTrue (is_rate rate))

-- the text is this number in decimal digits, without a sign or a leading zero, and the number is at most so much
abbrev pub IsNumber : ℕ → Text → ℕ → Type 0
IsNumber most text n = (text ≡ decimal n) × (n ≤ most)

-- how many nodes of the search: at most 10,000,000, and 20,000 where no value stands
abbrev pub NodesOf : Option Text → ℕ → Type 0
NodesOf value nodes = MatchOption value (nodes ≡ 20000) (λ text. IsNumber 10000000 text nodes)

-- chbwcod, which is at most 60 (A/52 5.4.3.24), where a value stands
abbrev pub BandwidthOf : Option Text → Option ℕ → Type 0
BandwidthOf value bw = MatchOption value (bw ≡ None) (λ text. (code : ℕ) × (bw ≡ Some code) × IsNumber 60 text code)

-- the text is these two codes in decimal digits, each without a sign or a leading zero, with a comma between them:
-- cplbegf and cplendf (A/52 5.4.3.11, 5.4.3.12), of at most 15 each, and the first at most the second and 2
abbrev pub AreBins : Text → ℕ → ℕ → Type 0
AreBins text begin end = (text ≡ decimal begin ++ (codes "," ++ decimal end)) × (begin ≤ 15) × (end ≤ 15) × (begin ≤ end + 2)

-- the text is `off`, `auto`, or two codes
abbrev pub IsCouple : Text → Couple → Type 0
IsCouple text Off = text ≡ codes "off"
IsCouple text Auto = text ≡ codes "auto"
IsCouple text (Bins begin end) = AreBins text begin end

-- the use of coupling (A/52 7.4): by the rate where no value stands
abbrev pub CoupleOf : Option Text → Couple → Type 0
CoupleOf value couple = MatchOption value (couple ≡ Auto) (λ text. IsCouple text couple)

-- what the values say
pub record Says (rate nodes bw couple : Option Text) (o : Options) : Type 0 where
  pub rate_is : RateOf rate o.rate
  pub nodes_is : NodesOf nodes o.nodes
  pub bw_is : BandwidthOf bw o.bw
  pub couple_is : CoupleOf couple o.couple

-- these words are pairs that give these options
pub record EncodePairs (ws : List Text) (o : Options) : Type 0 where
  pub pairs : List Pair
  pub form : ArePairs encode_known ws pairs
  pub says : Says (value_in (codes "rate") pairs) (value_in (codes "nodes") pairs) (value_in (codes "bw") pairs)
      (value_in (codes "couple") pairs) o

-- ---- the options of synth

abbrev pub synth_known : List Known
synth_known = (codes "seed", true) ∷ (codes "frames", true) ∷ []

-- where the numbers drawn start: at most 2^64 - 1; a seed is required
abbrev pub SeedOf : Option Text → ℕ → Type 0
SeedOf value seed = MatchOption value ⊥ (λ text. IsNumber 18446744073709551615 text seed)

-- how many frames: 1 to 200; their number is required
abbrev pub FramesOf : Option Text → ℕ → Type 0
FramesOf value frames = MatchOption value ⊥ (λ text. IsNumber 200 text frames × (1 ≤ frames))

-- these words are pairs that give this seed and so many frames
pub record SynthPairs (ws : List Text) (seed frames : ℕ) : Type 0 where
  pub pairs : List Pair
  pub form : ArePairs synth_known ws pairs
  pub seed_is : SeedOf (value_in (codes "seed") pairs) seed
  pub frames_is : FramesOf (value_in (codes "frames") pairs) frames

-- ---- the names

-- `-`, or not empty and without a hyphen before it
abbrev pub is_name : Text → Bool
is_name word = bytes_eq word (codes "-") || (nat_lt 0 (length word) && not (starts_with_minus word))

-- the names of the input, the output and the report
pub record LastWords : Type 0 where
  pub from : Text
  pub to : Text
  pub report : Text

-- as they stand in the line
abbrev pub last_words : LastWords → List Text
last_words n = n.from ∷ n.to ∷ n.report ∷ []

-- each of them is a name
abbrev pub are_names : LastWords → Bool
are_names n = list_all is_name (last_words n)

-- ---- the whole line

-- what words mean
pub data Meaning : Type 0 where
  encode : Options → LastWords → Meaning
  decode : LastWords → Meaning
  synth : ℕ → ℕ → LastWords → Meaning

-- `encode` or `synth`, then its pairs, then three names; `decode`, then three names
abbrev pub Means : List Text → Meaning → Type 0
Means ws (encode o n) =
    (middle : List Text) × (ws ≡ codes "encode" ∷ (middle ++ last_words n))
    × EncodePairs middle o × (are_names n ≡ true)
Means ws (decode n) = (ws ≡ codes "decode" ∷ last_words n) × (are_names n ≡ true)
Means ws (synth seed frames n) =
    (middle : List Text) × (ws ≡ codes "synth" ∷ (middle ++ last_words n))
    × SynthPairs middle seed frames × (are_names n ≡ true)

-- the words mean something
abbrev pub InGrammar : List Text → Type 0
InGrammar ws = (m : Meaning) × Means ws m

-- words mean one thing
abbrev pub WordsMeanOneThing : Type 0
WordsMeanOneThing = (ws : List Text) (m n : Meaning) → Means ws m → Means ws n → m ≡ n
