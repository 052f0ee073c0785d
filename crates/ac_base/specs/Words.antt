-- Strategy words: the exponent strategy codes of a coded channel in the six blocks of a frame (A/52 5.4.3.21 to 5.4.3.23). A code is 0
-- for reuse, or the kind of the exponents that the block sends: 1 for D15, 2 for D25, 3 for D45.
use Rattle.std.specs.Prelude.{◌≡◌, ℕ, ◌+◌, ◌<◌, ◌≤◌, ◌==◌, if◌then◌else◌, Bool, true, false, Option, List, [], ◌∷◌, length, slice_index, slice_index_or}
use Rattle.std.specs.List.{All, Contains}
use Rattle.ac_base.specs.declared.runs.Run.{Run}
use Rattle.ac_base.specs.Shape.{coded_of, span_of}
use Rattle.ac_base.specs.Spans.{greatest_kind}

-- six codes; block 0 sends exponents, and no code is over 3
pub record IsWord (codes : List ℕ) : Type 0 where
  pub long : length codes ≡ 6
  pub sends : 1 ≤ slice_index codes 0
  pub small : (block : ℕ) → block < 6 → slice_index codes block ≤ 3

-- ---- runs: the blocks that share exponents by reuse (code 0)

-- how many zeros a list of codes begins with
abbrev pub zeros : List ℕ → ℕ
zeros [] = 0
zeros (k ∷ ks) = if k == 0 then zeros ks + 1 else 0

-- the runs that begin in these codes, which are those of the blocks from b on: each is read off its own code and the zeros behind it
abbrev pub runs_at : ℕ → List ℕ → List Run
runs_at b [] = []
runs_at b (k ∷ ks) =
    if k == 0 then runs_at (b + 1) ks else record { from = b; to = b + 1 + zeros ks; kind = k } ∷ runs_at (b + 1) ks

-- all runs of a word
abbrev pub runs_of : List ℕ → List Run
runs_of codes = runs_at 0 codes

-- what a call that takes a run asks of it
pub record IsRun (run : Run) : Type 0 where
  pub order : run.from < run.to
  pub blocks : run.to ≤ 6
  pub some : 1 ≤ run.kind
  pub kind : run.kind ≤ 3

-- a stretch of blocks that share exponents, as long as it can be: said without a recursion
pub record IsStretch (codes : List ℕ) (run : Run) : Type 0 where
  pub order : run.from < run.to
  pub blocks : run.to ≤ 6
  pub sends : 1 ≤ slice_index codes run.from
  pub kind : run.kind ≡ slice_index codes run.from
  pub reuses : (block : ℕ) → run.from < block → block < run.to → slice_index codes block ≡ 0
  pub longest : run.to < 6 → 1 ≤ slice_index codes run.to

-- these runs follow one another without a gap from a block up to but not another
abbrev pub Tile : ℕ → ℕ → List Run → Type 0
Tile from to [] = from ≡ to
Tile from to (run ∷ runs) = (run.from ≡ from) × (from < run.to) × Tile run.to to runs

-- laws of these definitions: the runs of a word are one behind the other from block 0 to block 5
abbrev pub RunsTile : Type 0
RunsTile = (codes : List ℕ) → IsWord codes → Tile 0 6 (runs_of codes)

-- each is such a stretch
abbrev pub RunsAreStretches : Type 0
RunsAreStretches = (codes : List ℕ) → IsWord codes → All (IsStretch codes) (runs_of codes)

-- and each such stretch is one of them
abbrev pub EachStretchIsARun : Type 0
EachStretchIsARun = (codes : List ℕ) (run : Run) → IsWord codes → IsStretch codes run → Contains (runs_of codes) run

-- ---- assignments: a word for each coded channel of a frame, as a list of words

-- the word of a coded channel; what stands behind the last one's isn't looked at
abbrev pub word_of : List (List ℕ) → ℕ → List ℕ
word_of assign c = slice_index_or assign c []

-- each coded channel has a word of kinds that it takes, so that LFE has the codes 0 and 1 alone
pub record IsAssignment (acmod : ℕ) (lfe : Bool) (chbwcod : ℕ) (couple : Option (ℕ × ℕ)) (assign : List (List ℕ)) : Type 0 where
  pub words : (c : ℕ) → c < coded_of acmod lfe couple → IsWord (word_of assign c)
  pub kinds : (c block : ℕ) → c < coded_of acmod lfe couple → block < 6
      → slice_index (word_of assign c) block ≤ greatest_kind (span_of acmod chbwcod couple c).lead

-- LFE's word beside a word: D15 in the blocks in which the word sends exponents
abbrev pub low_word : List ℕ → List ℕ
low_word [] = []
low_word (k ∷ ks) = (if k == 0 then 0 else 1) ∷ low_word ks

-- all coded channels but LFE have one word, and LFE sends where that word does: this project's own
pub record IsUniform (acmod : ℕ) (lfe : Bool) (couple : Option (ℕ × ℕ)) (assign : List (List ℕ)) : Type 0 where
  pub word : List ℕ
  pub is_word : IsWord word
  pub others : (c : ℕ) → c < coded_of acmod false couple → word_of assign c ≡ word
  pub low : lfe ≡ true → word_of assign (coded_of acmod false couple) ≡ low_word word

-- a uniform one is an assignment: a law of these definitions
abbrev pub UniformIsAssignment : Type 0
UniformIsAssignment =
    (acmod : ℕ) (lfe : Bool) (chbwcod : ℕ) (couple : Option (ℕ × ℕ)) (assign : List (List ℕ))
    → IsUniform acmod lfe couple assign → IsAssignment acmod lfe chbwcod couple assign
